use Rattle.order_laws.proofs.LeastLemmas.{least_numbers_are_least}
use Rattle.order_laws.proofs.in_order.least_numbers_are_least.Goals as goal

pub returns : goal.returns
returns c = least_numbers_are_least
