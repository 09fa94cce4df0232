use Rattle.std.proofs.Common.{take}
use Rattle.std.specs.List.{All}
use Rattle.pf_geom.specs.Position.{IsPosition}
use Rattle.step_core.proofs.cutting.are_positions.Given as goal

abbrev pub invariant-loop-body : goal.invariant-loop-body
invariant-loop-body l = All (λ j. IsPosition j.at) (take l.body-index l.bodies)
