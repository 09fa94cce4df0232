use Rattle.order_laws.proofs.RisingLemmas.{sorts_by_key_are_one}
use Rattle.order_laws.proofs.in_order.sorts_by_key_are_one.Goals as goal

pub returns : goal.returns
returns g c = sorts_by_key_are_one
