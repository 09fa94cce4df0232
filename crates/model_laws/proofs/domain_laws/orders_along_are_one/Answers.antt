use Rattle.model_laws.proofs.DomainOrderLemmas.{orders_along_are_one}
use Rattle.model_laws.proofs.domain_laws.orders_along_are_one.Goals as goal

pub returns : goal.returns
returns c = orders_along_are_one c.lists_in_order_are_one.ensures
