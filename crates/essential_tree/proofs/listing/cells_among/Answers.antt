use Rattle.std.proofs.Common.{List, [], ◌∷◌, ◌++◌, sym, ◌∙◌, ap}
use Rattle.std.proofs.lemmas.List.{append-nil}
use Rattle.pf_geom.specs.Octant.{Octant}
use Rattle.pf_model.specs.declared.entry.Entry.{Entry}
use Rattle.essential_tree.specs.Sending.{cells_among}
use Rattle.essential_tree.proofs.ListingLemmas.{cells_more}
use Rattle.essential_tree.proofs.listing.cells_among.Goals as goal
use Rattle.essential_tree.proofs.listing.cells_among.Goals.{in-Cell+in_ok-push, in_default}

pub loop-entry-preserved : goal.loop-entry-preserved
loop-entry-preserved c =
    let cells = c.loop-entry.cells.items in
    let entry : Entry = c.entry-item.result in
    let more = cells_more c.args.entries.now c.loop-entry.entry-index entry cells c.loop-entry-test.true c.entry-item.is c.loop-entry.invariant in
    let one : Entry → List Octant = λ e. cells ++ cells_among (e ∷ []) in
    elim c.match-entry.branch [
      | in-Cell+in_ok-push w ↦ ap (λ v. v.items) w.cells-is ∙ w.in_ok-push.ensures.items ∙ sym (ap one w.in-Cell.is) ∙ more
      | in_default w ↦ ap (λ v. v.items) w.cells-is ∙ sym (append-nil cells) ∙ sym (ap one w.in_default.is) ∙ more
    ]
