use Rattle.std.proofs.Common.{◌≡◌, map, take}
use Rattle.force_phase.specs.Tally.{nothing}
use Rattle.force_phase.proofs.gathered.nothing_yet.Given as goal

abbrev pub invariant-loop-v : goal.invariant-loop-v
invariant-loop-v l = l.tallies.items ≡ map (λ v. nothing v.combine) (take l.v-index l.forces)
