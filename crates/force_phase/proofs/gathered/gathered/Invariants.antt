use Rattle.std.proofs.Common.{◌≡◌, ◌+◌, ◌≤◌, drop}
use Rattle.force_phase.specs.Gathered.{with_given}
use Rattle.force_phase.proofs.gathered.gathered.Given as goal

abbrev pub invariant-loop-n : goal.invariant-loop-n
invariant-loop-n l =
    (with_given (drop l.n l.targets) (drop l.n l.s.given) l.v l.tally ≡ with_given l.targets l.s.given l.v l.fn.t)
    × (l.tally.count ≤ l.fn.t.count + l.n)
