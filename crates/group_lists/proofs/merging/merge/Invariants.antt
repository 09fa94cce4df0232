use Rattle.std.proofs.Common.{◌+◌, ◌-◌, length}
use Rattle.group_lists.proofs.MergeLemmas.{IsMergedSoFar}
use Rattle.group_lists.proofs.merging.merge.Given as goal

abbrev pub invariant-loop-from : goal.invariant-loop-from
invariant-loop-from l = IsMergedSoFar l.pieces l.entries l.from l.at l.list.items

abbrev pub decreases-loop-from : goal.decreases-loop-from
decreases-loop-from l = (length l.pieces + length l.entries) - (l.from + l.at)
