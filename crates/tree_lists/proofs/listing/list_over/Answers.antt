use Rattle.std.proofs.Common.{◌+◌, ◌≤◌, length, map, sym, ◌∙◌, ap, subst, arith}
use Rattle.std.specs.List.{All}
use Rattle.std.proofs.lemmas.List.Sorted.{length_permutation}
use Rattle.pf_model.specs.declared.entry.Entry.{Entry}
use Rattle.tree_lists.specs.declared.piece.Piece.{Piece}
use Rattle.tree_lists.specs.Pieces.{IsPieceOf, ArePieces, AreEntriesOf}
use Rattle.tree_lists.proofs.ListingLemmas.{pieces_in_order, list_from_pieces, spans_of_entries}
use Rattle.tree_lists.proofs.listing.list_over.Given as given
use Rattle.tree_lists.proofs.listing.list_over.Goals as goal

pub entries_of-requires-clause-inside : goal.entries_of-requires-clause-inside
entries_of-requires-clause-inside g c =
    let js = c.args.tree.now.built in
    let pieces = pieces_in_order c.args.t c.args.b js c.in_ok-pieces.pieces.items c.put_in_order.new.pieces.items c.put_in_order.ensures.same c.in_ok-pieces.ensures.pieces in
    subst (All (λ (q : Piece). q.span.first + q.span.len ≤ length js)) (sym c.deref.ensures.value) (λ k d within. (pieces.each k d within).1.inside)

pub entries_of-requires-clause-some : goal.entries_of-requires-clause-some
entries_of-requires-clause-some g c =
    let js = c.args.tree.now.built in
    let pieces = pieces_in_order c.args.t c.args.b js c.in_ok-pieces.pieces.items c.put_in_order.new.pieces.items c.put_in_order.ensures.same c.in_ok-pieces.ensures.pieces in
    subst (All (λ (q : Piece). 1 ≤ q.span.len)) (sym c.deref.ensures.value) (λ k d within. (pieces.each k d within).1.some)

-- the pieces in order, and the items as their entries
ordered : (g : given.Over) (c : goal.After-drop-pieces-2 g) → ArePieces c.args.t c.args.b c.args.tree.now.built c.put_in_order.new.pieces.items
ordered g c = pieces_in_order c.args.t c.args.b c.args.tree.now.built c.in_ok-pieces.pieces.items c.put_in_order.new.pieces.items c.put_in_order.ensures.same c.in_ok-pieces.ensures.pieces

entries : (g : given.Over) (c : goal.After-drop-pieces-2 g) → AreEntriesOf c.args.t c.args.b c.args.tree.now.built c.in_ok-entries.entries.items c.put_in_order.new.pieces.items
entries g c =
    let js = c.args.tree.now.built in
    let each = subst (All (λ (q : Piece). (e : Entry) × IsPieceOf c.args.t c.args.b js e q)) (sym c.deref.ensures.value) (ordered g c).each in
    subst (AreEntriesOf c.args.t c.args.b js c.in_ok-entries.entries.items) c.deref.ensures.value (c.in_ok-entries.ensures c.args.t c.args.b each)

pub returns-clause-entries : goal.returns-clause-entries
returns-clause-entries g c =
    list_from_pieces (record {
      one = c.entries_at_one_place_are_one.ensures;
      levels = c.entries_have_levels.ensures;
      order = c.entries_stand_by_place.ensures;
    }) c.lists_hold_their_entries.ensures c.args.t c.args.b c.args.tree.now.built c.put_in_order.new.pieces.items c.in_ok-entries.entries.items
    c.pieces_of.ensures.tree.are_bodies.distinct c.pieces_of.ensures.tree.ordered (ordered g c) c.put_in_order.ensures.ordered (entries g c)

pub returns-clause-spans : goal.returns-clause-spans
returns-clause-spans g c =
    spans_of_entries c.args.t c.args.b c.args.tree.now.built c.in_ok-entries.entries.items c.put_in_order.new.pieces.items c.in_ok-spans.spans.items (entries g c)
    (c.in_ok-spans.ensures ∙ ap (map (λ (q : Piece). q.span)) c.deref-2.ensures.value)

pub returns-clause-tests : goal.returns-clause-tests
returns-clause-tests g c =
    let tests = c.in_ok-pieces.ensures.tests in
    let long = length_permutation c.in_ok-pieces.pieces.items c.put_in_order.new.pieces.items c.put_in_order.ensures.same in
    let count = (entries g c).counted in
    omega arith
