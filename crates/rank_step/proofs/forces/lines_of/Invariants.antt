use Rattle.std.proofs.Common.{◌≡◌, take, map}
use Rattle.rank_step.proofs.forces.lines_of.Given as goal

abbrev pub invariant-loop-rank : goal.invariant-loop-rank
invariant-loop-rank l = l.lines.items ≡ map (λ r. r.line) (take l.rank-index l.built)
