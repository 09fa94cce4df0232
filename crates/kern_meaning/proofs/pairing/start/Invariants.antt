use Rattle.std.proofs.Common.{◌≡◌, ℕ, ◌<◌, None, get_or}
use Rattle.kern_meaning.specs.Variables.{started_at}
use Rattle.kern_meaning.proofs.pairing.start.Given as goal

abbrev pub invariant-loop-k : goal.invariant-loop-k
invariant-loop-k l = (m : ℕ) → m < l.k → get_or l.values m None ≡ started_at l.i l.j l.variables m
