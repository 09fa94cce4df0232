use Rattle.order_laws.proofs.RisingLemmas.{rising_lists_are_one}
use Rattle.order_laws.proofs.in_order.rising_lists_are_one.Goals as goal

pub returns : goal.returns
returns g c = rising_lists_are_one
