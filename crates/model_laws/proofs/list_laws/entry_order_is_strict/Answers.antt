use Rattle.model_laws.proofs.PlaceLemmas.{entry_order_is_strict}
use Rattle.model_laws.proofs.list_laws.entry_order_is_strict.Goals as goal

pub returns : goal.returns
returns c = entry_order_is_strict
