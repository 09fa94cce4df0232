use Rattle.std.proofs.Common.{ℕ, ◌∙◌, length, List, ap, arith}
use Rattle.pf_geom.specs.declared.axis.Axis.TheVariants.{Y, Z}
use Rattle.pf_model.specs.Division.{Division}
use Rattle.pf_model.specs.Domains.{cuts_of}
use Rattle.pf_geom.specs.Position.{along}
use Rattle.pf_model.specs.Domains.{in_slab_along}
use Rattle.step_core.proofs.CutLemmas.{slab_short}
use Rattle.step_core.proofs.RangeLemmas.{range_behind}
use Rattle.step_core.proofs.cutting.cut_slab.Goals as goal

pub cut_along-requires-in-loop-iy-clause-bodies : goal.cut_along-requires-in-loop-iy-clause-bodies
cut_along-requires-in-loop-iy-clause-bodies c =
    let long = ap length (c.deref-in-loop-iy.ensures.value ∙ c.in_ok-column.ensures) in
    let short = slab_short Y c.deref.result.now c.args.slab.now c.loop-iy.iy in
    let few = c.requires in
    omega arith

pub loop-iy-preserved : goal.loop-iy-preserved
loop-iy-preserved c =
    let slab = c.args.slab.now in
    let ny = ap (λ (g : Division). g.ny) c.grid.view_is in
    let nz = ap (λ (g : Division). g.nz) c.grid.view_is in
    let own = c.deref.ensures.value ∙ c.in_ok-own.ensures ∙ ap (cuts_of (along Y) slab) ny in
    let column = c.deref-in-loop-iy.ensures.value ∙ c.in_ok-column.ensures ∙ ap (λ (cuts : List ℕ). in_slab_along Y cuts slab c.loop-iy.iy) own in
    let cuts = c.deref-in-loop-iy-2.ensures.value ∙ c.in_ok-cuts.ensures ∙ (λ i. cuts_of (along Z) (column i) (nz i)) in
    c.in_ok-extend_from_slice.ensures.items
    ∙ range_behind (λ iy. cuts_of (along Z) (in_slab_along Y (cuts_of (along Y) slab c.args.grid.ny) slab iy) c.args.grid.nz) c.loop-iy.iy c.args.z.now.items c.loop-iy.z.items c.deref-in-loop-iy-2.result.now c.loop-iy.invariant cuts
