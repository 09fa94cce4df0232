use Rattle.order_laws.proofs.OrderLemmas.{orders_are_short}
use Rattle.order_laws.proofs.in_order.orders_are_short.Goals as goal

pub returns : goal.returns
returns g c = orders_are_short
