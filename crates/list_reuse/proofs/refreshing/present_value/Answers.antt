use Rattle.std.proofs.Common.{◌≡◌, ◌<◌, List, length, get_or, Some, None, refl, sym, ◌∙◌, ap, subst}
use Rattle.std.specs.List.{slice_get}
use Rattle.std.proofs.lemmas.Bool.{ltb-true, ltb-false}
use Rattle.std.proofs.lemmas.Option.{slice_get_read, slice_get_past}
use Rattle.pf_geom.specs.Octant.{Octant}
use Rattle.pf_model.specs.Particle.{Particle}
use Rattle.pf_model.specs.Totals.{Totals}
use Rattle.pf_model.specs.declared.entry.Entry.TheVariants.{Cell}
use Rattle.list_reuse.proofs.RefreshLemmas.{Laws, value_of_cell, value_of_one}
use Rattle.list_reuse.proofs.refreshing.present_value.Goals as goal

pub bounds-bodies-span : goal.bounds-bodies-span
bounds-bodies-span c =
    let kept = c.requires.kept in
    let laws : Laws = record {
      lists = c.lists_hold_their_entries.ensures;
      some = c.some_have_distinct_ids.ensures;
      order = c.moments_ignore_order.ensures;
      are_found = c.present_are_found.ensures;
      entries_are_found = c.present_entries_are_found.ensures;
      passing = c.tests_keep_what_passes.ensures;
    } in
    let place = c.args.place in
    let look = c.in-None.ensures.lookup in
    let none : slice_get c.args.sent.now.cells.items place ≡ None =
    ap (λ (cs : List Octant). slice_get cs place) (sym c.deref.ensures.value) ∙ slice_get_past c.deref.result.now place (ltb-false place (length c.deref.result.now) (sym look.0)) in
    subst (λ (js : List Particle). c.index-span.result.now.first < length js) (sym c.bodies-bodies.ensures.value)
    (value_of_one laws c.args.tree.now c.bodies-bodies.ensures.tree kept.0 kept.1 kept.2 c.args.sent.now place c.index-span.result.now kept.3 c.requires.within c.index-span.ensures none).0

pub returns-in-Some : goal.returns-in-Some
returns-in-Some c t box items kept =
    let laws : Laws = record {
      lists = c.lists_hold_their_entries.ensures;
      some = c.some_have_distinct_ids.ensures;
      order = c.moments_ignore_order.ensures;
      are_found = c.present_are_found.ensures;
      entries_are_found = c.present_entries_are_found.ensures;
      passing = c.tests_keep_what_passes.ensures;
    } in
    let place = c.args.place in
    let cell = c.in-Some.cell.now in
    let look = c.in-Some.ensures.lookup in
    let some : slice_get c.args.sent.now.cells.items place ≡ Some cell =
    ap (λ (cs : List Octant). slice_get cs place) (sym c.deref.ensures.value) ∙ slice_get_read c.deref.result.now (length c.deref.result.now) place cell refl (ltb-true place (length c.deref.result.now) (sym look.0)) look.1 in
    value_of_cell laws c.args.tree.now c.bodies-bodies.ensures.tree t box items c.args.sent.now place c.index-span.result.now cell kept c.requires.within c.index-span.ensures some
    ∙ ap (λ (m : Totals). Some (Cell cell m)) (sym c.moment.ensures)

pub returns-in-None : goal.returns-in-None
returns-in-None c t box items kept =
    let laws : Laws = record {
      lists = c.lists_hold_their_entries.ensures;
      some = c.some_have_distinct_ids.ensures;
      order = c.moments_ignore_order.ensures;
      are_found = c.present_are_found.ensures;
      entries_are_found = c.present_entries_are_found.ensures;
      passing = c.tests_keep_what_passes.ensures;
    } in
    let place = c.args.place in
    let look = c.in-None.ensures.lookup in
    let none : slice_get c.args.sent.now.cells.items place ≡ None =
    ap (λ (cs : List Octant). slice_get cs place) (sym c.deref.ensures.value) ∙ slice_get_past c.deref.result.now place (ltb-false place (length c.deref.result.now) (sym look.0)) in
    let b = c.index-bodies-span.result in
    let read : b ≡ get_or c.args.tree.now.bodies c.index-span.result.now.first b =
    c.index-bodies-span.is ∙ ap (λ (js : List Particle). get_or js c.index-span.result.now.first b) c.bodies-bodies.ensures.value in
    (value_of_one laws c.args.tree.now c.bodies-bodies.ensures.tree t box items c.args.sent.now place c.index-span.result.now kept c.requires.within c.index-span.ensures none).1 b read
