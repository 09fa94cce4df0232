use Rattle.order_laws.proofs.ElementLemmas.{tests_keep_what_passes}
use Rattle.order_laws.proofs.parts.tests_keep_what_passes.Goals as goal

pub returns : goal.returns
returns g c = tests_keep_what_passes
