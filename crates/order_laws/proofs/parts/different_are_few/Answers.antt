use Rattle.order_laws.proofs.DifferentLemmas.{different_are_few}
use Rattle.order_laws.proofs.parts.different_are_few.Goals as goal

pub returns : goal.returns
returns g c = different_are_few
