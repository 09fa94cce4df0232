use Rattle.std.proofs.Common.{◌≡◌, length}
use Rattle.tree_lists.proofs.ListingLemmas.{EachAt, IsPieceAt}
use Rattle.tree_lists.proofs.pieces.pieces_for.Given as goal

abbrev pub invariant-loop-run : goal.invariant-loop-run
invariant-loop-run l = (length l.pieces.items ≡ l.run-index) × EachAt (IsPieceAt l.bodies l.runs) l.pieces.items
