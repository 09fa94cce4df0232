use Rattle.std.proofs.Common.{◌≡◌, ◌+◌, drop}
use Rattle.lane_machine.specs.Sums.{number_of_force}
use Rattle.lane_machine.proofs.sums.force_of.Given as goal

abbrev pub invariant-loop-n : goal.invariant-loop-n
invariant-loop-n l = number_of_force l.forces l.name ≡ l.n + number_of_force (drop l.n l.forces) l.name
