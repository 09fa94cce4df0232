use Rattle.std.proofs.Common.{◌≡◌, take, map}
use Rattle.particle_file.proofs.particles.copy_ids.Given as goal

abbrev pub invariant-loop-i : goal.invariant-loop-i
invariant-loop-i l = take l.i l.ids ≡ map (λ p. p.id) (take l.i l.bodies)
