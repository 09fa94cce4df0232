use Rattle.std.proofs.Common.{◌-◌, ◌*◌, ◌/◌, ◌^◌}
use Rattle.pf_geom.proofs.KeyLoops.{AreRead}
use Rattle.pf_geom.proofs.key.coordinates.Given as goal

abbrev pub invariant-loop-place : goal.invariant-loop-place
invariant-loop-place l = AreRead (l.count - l.place) (l.key / 2 ^ (3 * l.place)) l.x l.y l.z
