use Rattle.std.proofs.Common.{◌≡◌, take, map}
use Rattle.force_phase.specs.Tally.{nothing}
use Rattle.force_phase.proofs.gathered.clear.Given as goal

abbrev pub invariant-loop-k : goal.invariant-loop-k
invariant-loop-k l = take l.k l.tallies ≡ map (λ v. nothing v.combine) (take l.k l.forces)
