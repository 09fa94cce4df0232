use Rattle.std.proofs.Common.{◌≡◌, map, take}
use Rattle.lane_machine.specs.Total.{nothing}
use Rattle.lane_machine.proofs.sums.nothing_yet.Given as goal

abbrev pub invariant-loop-v : goal.invariant-loop-v
invariant-loop-v l = l.totals.items ≡ map (λ v. nothing v.combine) (take l.v-index l.forces)
