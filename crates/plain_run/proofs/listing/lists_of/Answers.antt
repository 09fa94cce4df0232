use Rattle.std.proofs.Common.{◌∙◌, List, ap}
use Rattle.pf_geom.specs.Octant.{Octant}
use Rattle.pf_geom.specs.Bounds.{Bounds}
use Rattle.pf_model.specs.Particle.{Particle}
use Rattle.pf_model.specs.Group.{particles_in, group_cells, box_of}
use Rattle.pf_model.specs.Interaction.{list_of}
use Rattle.plain_run.proofs.StepLemmas.{flat_next, flat_end}
use Rattle.plain_run.proofs.ListingLemmas.{lists_by_cells}
use Rattle.plain_run.proofs.listing.lists_of.Goals as goal

pub loop-cell-preserved : goal.loop-cell-preserved
loop-cell-preserved c =
    let own = c.in_ok-own.own.items in
    let cell = c.cell-item.result in
    let around = c.in_ok-around.ensures ∙ ap (λ (js : List Particle). box_of (particles_in cell js)) c.deref-in-loop-cell.ensures.value in
    let list = c.deref-in-loop-cell-2.ensures.value ∙ c.in_ok-list.ensures ∙ ap (λ (b : Bounds). list_of c.args.theta b c.args.built.now) around in
    flat_next (λ (d : Octant). list_of c.args.theta (box_of (particles_in d own)) c.args.built.now) c.deref-cell-items.result.now c.loop-cell.cell-index cell _ _ _ _ c.loop-cell-test.true c.cell-item.is
    list c.in_ok-extend_from_slice.ensures.items c.loop-cell.invariant

pub returns : goal.returns
returns c =
    let own = c.in_ok-own.own.items in
    let cells = c.deref-cell-items.ensures.value ∙ c.in_ok-cells.ensures ∙ ap (λ (js : List Particle). group_cells c.args.limit js) c.deref.ensures.value in
    flat_end (λ (d : Octant). list_of c.args.theta (box_of (particles_in d own)) c.args.built.now) c.deref-cell-items.result.now c.loop-cell.cell-index _ _ c.loop-cell-test.false c.loop-cell.invariant
    ∙ lists_by_cells c.args.theta c.args.limit c.args.grid c.args.built.now c.args.rank own c.deref-cell-items.result.now c.in_ok-own.ensures cells
