use Rattle.std.proofs.Common.{◌≡◌, length}
use Rattle.std.specs.List.{All}
use Rattle.pf_geom.specs.Bounds.{Bounds}
use Rattle.pf_model.specs.declared.entry.Entry.{Entry}
use Rattle.pf_model.specs.Criterion.{Criterion}
use Rattle.tree_lists.specs.Pieces.{IsPieceOf}
use Rattle.tree_lists.proofs.ListingLemmas.{EachAt, IsEntryAt}
use Rattle.tree_lists.proofs.listing.entries_of.Given as goal

abbrev pub invariant-loop-piece : goal.invariant-loop-piece
invariant-loop-piece l =
    (length l.entries.items ≡ l.piece-index)
    × ((t : Criterion) (box : Bounds) → All (λ q. (e : Entry) × IsPieceOf t box l.tree.built e q) l.pieces → EachAt (IsEntryAt t box l.tree.built l.pieces) l.entries.items)
