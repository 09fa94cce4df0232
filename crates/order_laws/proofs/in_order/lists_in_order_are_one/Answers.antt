use Rattle.order_laws.proofs.RisingLemmas.{lists_in_order_are_one}
use Rattle.order_laws.proofs.in_order.lists_in_order_are_one.Goals as goal

pub returns : goal.returns
returns g c = lists_in_order_are_one
