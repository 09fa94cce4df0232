use Rattle.order_laws.proofs.MapLemmas.{maps_keep_orders}
use Rattle.order_laws.proofs.in_order.maps_keep_orders.Goals as goal

pub returns : goal.returns
returns g c = maps_keep_orders
