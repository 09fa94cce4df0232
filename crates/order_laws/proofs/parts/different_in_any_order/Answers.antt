use Rattle.order_laws.proofs.DifferentLemmas.{different_in_any_order}
use Rattle.order_laws.proofs.parts.different_in_any_order.Goals as goal

pub returns : goal.returns
returns g c = different_in_any_order
