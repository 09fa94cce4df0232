use Rattle.std.proofs.Common.{◌≡◌, map, take}
use Rattle.lane_machine.specs.Sums.{number_of_force}
use Rattle.lane_machine.proofs.sums.forces_of_slots.Given as goal

abbrev pub invariant-loop-name : goal.invariant-loop-name
invariant-loop-name l = l.slots.items ≡ map (number_of_force l.forces) (take l.name-index l.names)
