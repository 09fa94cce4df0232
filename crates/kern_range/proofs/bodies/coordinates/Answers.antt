use Rattle.std.proofs.Common.{sym, lit<}
use Rattle.kern_range.specs.Bodies.{coordinates}
use Rattle.kern_range.proofs.IntervalLemmas.{narrow-fits}
use Rattle.kern_range.proofs.bodies.coordinates.Goals as goal

pub returns : goal.returns
returns c = sym (narrow-fits coordinates (record { sfits = lit< tt }) (record { sfits = lit< tt }))
