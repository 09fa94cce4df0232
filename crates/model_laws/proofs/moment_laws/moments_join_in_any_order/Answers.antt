use Rattle.model_laws.proofs.TogetherLemmas.{moments_join_in_any_order}
use Rattle.model_laws.proofs.moment_laws.moments_join_in_any_order.Goals as goal

pub returns : goal.returns
returns c = moments_join_in_any_order
