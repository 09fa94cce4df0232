use Rattle.std.proofs.Common.{◌≡◌, ◌++◌, take, drop}
use Rattle.force_phase.specs.Gathered.{each_with, with_given}
use Rattle.force_phase.proofs.gathered.gather.Given as goal

abbrev pub invariant-loop-k : goal.invariant-loop-k
invariant-loop-k l =
    l.tallies ≡ take l.k (each_with (with_given l.targets l.s.given) l.forces l.fn.tallies) ++ drop l.k l.fn.tallies
