use Rattle.std.proofs.Common.{◌≡◌, length, get_or}
use Rattle.group_lists.specs.Gathering.{Gathering}
use Rattle.tree_phase.specs.Trees.{EachByRank, IsFinished}
use Rattle.rank_step.proofs.build.finish_all.Given as goal

abbrev pub invariant-loop-gather : goal.invariant-loop-gather
invariant-loop-gather g l =
    (length l.finished.items ≡ length l.yielded)
    × EachByRank (λ rank r. (gather : Gathering) → IsFinished g.T.Terms.theta g.T.Terms.grid g.T.Terms.particles (get_or l.fn.gathers.items rank gather) r) l.finished.items
