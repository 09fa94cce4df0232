use Rattle.std.proofs.Common.{◌≡◌, ◌≤◌, take}
use Rattle.pf_model.specs.Merging.{common_count}
use Rattle.group_lists.proofs.merging.common_count.Given as goal

abbrev pub invariant-loop-piece : goal.invariant-loop-piece
invariant-loop-piece l = (l.common ≡ common_count (take l.piece-index l.pieces) l.entries) × (l.common ≤ l.piece-index)
