use Rattle.std.proofs.Common.{rules, of_calls}
use Rattle.std.proofs.lemmas.Fn.{always_returns_same}
use Rattle.tree_lists.specs.declared.piece.Piece.{Piece}
use Rattle.tree_lists.proofs.ListingLemmas.{place_order_from_sort}
use Rattle.tree_lists.proofs.listing.put_in_order.Goals as goal

pub returns-clause-ordered : goal.returns-clause-ordered
returns-clause-ordered c =
    place_order_from_sort _ (c.sort_unstable_by_key.ensures.sorted (λ (q : Piece). q.place) (always_returns_same _ _ _ (λ a r f k. search (rules, of_calls))))
