use Rattle.order_laws.proofs.RisingLemmas.{distinct_keys_rise}
use Rattle.order_laws.proofs.in_order.distinct_keys_rise.Goals as goal

pub returns : goal.returns
returns g c = distinct_keys_rise
