use Rattle.std.proofs.Common.{◌≡◌, ◌≤◌, take}
use Rattle.std.specs.List.{count_by}
use Rattle.group_lists.specs.Pieces.{is_occupied}
use Rattle.group_lists.proofs.occupied.occupied_count.Given as goal

abbrev pub invariant-loop-piece : goal.invariant-loop-piece
invariant-loop-piece g l = (l.occupied ≡ count_by (is_occupied l.bodies l.trees) (take l.piece-index l.pieces)) × (l.occupied ≤ l.piece-index)
