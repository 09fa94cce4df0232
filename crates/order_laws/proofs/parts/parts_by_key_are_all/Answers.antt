use Rattle.order_laws.proofs.RisingLemmas.{parts_by_key_are_all}
use Rattle.order_laws.proofs.parts.parts_by_key_are_all.Goals as goal

pub returns : goal.returns
returns g c = parts_by_key_are_all
