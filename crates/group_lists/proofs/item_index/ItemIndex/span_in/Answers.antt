use Rattle.std.proofs.Common.{◌≡◌, ℕ, List, sym, ap, subst}
use Rattle.pf_model.specs.declared.entry.Entry.{Entry}
use Rattle.pf_model.specs.Particle.{Particle}
use Rattle.pf_model.specs.Sufficiency.{lies_in}
use Rattle.group_lists.specs.Listing.{IsSpanOf}
use Rattle.group_lists.specs.Indexed.{AreIdsOf, LieByPlace}
use Rattle.group_lists.proofs.KeyedLemmas.{is_cell_of}
use Rattle.group_lists.proofs.IndexLemmas.{itself, span_from_keys}
use Rattle.group_lists.proofs.item_index.ItemIndex.span_in.Goals as goal

pub returns-in-Cell : goal.returns-in-Cell
returns-in-Cell c = λ items h fit.
    let s = c.span_of_cell.result in
    let cell = c.in-Cell.cell in
    let span : IsSpanOf (is_cell_of itself cell) c.args.self.now.keys.items s =
    subst (λ (ks : List ℕ). IsSpanOf (is_cell_of itself cell) ks s) c.deref.ensures.value c.span_of_cell.ensures in
    subst (λ (e : Entry). LieByPlace items e → IsSpanOf (λ f. lies_in f e) items s) (sym c.in-Cell.is)
    (λ by_place. span_from_keys cell c.in-Cell.field-1 items c.args.self.now s h by_place span) fit

pub returns-in-One : goal.returns-in-One
returns-in-One c = λ items h fit.
    let named : c.in-One.body.id ≡ c.body.inside.id = ap (λ (p : Particle). p.id) (sym c.body.view_is) in
    let ids : AreIdsOf items c.deref-in-One.result.now = subst (AreIdsOf items) (sym c.deref-in-One.ensures.value) h.ids in
    subst (λ (e : Entry). IsSpanOf (λ f. lies_in f e) items c.span_of_id.result) (sym c.in-One.is) (c.span_of_id.ensures items c.in-One.body named ids h.distinct)
