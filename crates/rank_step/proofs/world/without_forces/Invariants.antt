use Rattle.std.proofs.Common.{◌≡◌, take, map}
use Rattle.rank_step.specs.Taken.{without_forces}
use Rattle.rank_step.proofs.world.without_forces.Given as goal

abbrev pub invariant-loop-body : goal.invariant-loop-body
invariant-loop-body l = l.forced.items ≡ map without_forces (take l.body-index l.bodies)
