use Rattle.std.proofs.Common.{sym, lit<}
use Rattle.kern_range.specs.Bodies.{velocities}
use Rattle.kern_range.proofs.IntervalLemmas.{narrow-fits}
use Rattle.kern_range.proofs.bodies.velocities.Goals as goal

pub returns : goal.returns
returns c = sym (narrow-fits velocities (record { sfits = lit< tt }) (record { sfits = lit< tt }))
