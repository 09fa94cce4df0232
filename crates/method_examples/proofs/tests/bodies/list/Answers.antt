use Rattle.std.proofs.Common.{sym, subst}
use Rattle.pf_model.specs.Particles.{AreBodies}
use Rattle.method_examples.proofs.tests.bodies.list.Goals as goal

pub returns : goal.returns
returns c = subst AreBodies (sym c.bodies.ensures.items) c.bodies.ensures.bodies
