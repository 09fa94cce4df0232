use Rattle.model_laws.proofs.TogetherLemmas.{entries_join_in_any_order}
use Rattle.model_laws.proofs.moment_laws.entries_join_in_any_order.Goals as goal

pub returns : goal.returns
returns c = entries_join_in_any_order
