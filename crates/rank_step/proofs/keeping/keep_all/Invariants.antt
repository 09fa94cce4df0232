use Rattle.std.proofs.Common.{◌≡◌, map}
use Rattle.refresh_phase.specs.Kept.{as_built}
use Rattle.rank_step.proofs.keeping.keep_all.Given as goal

abbrev pub invariant-loop-rank : goal.invariant-loop-rank
invariant-loop-rank l = l.kept.items ≡ map (λ r. as_built r.tree r.lists) l.yielded
