use Rattle.std.proofs.Common.{◌≡◌, ℕ, ◌∙◌, length, List, sym, ap, subst, arith}
use Rattle.std.specs.List.{range_with_len, flat_map}
use Rattle.pf_geom.specs.declared.axis.Axis.TheVariants.{X, Y}
use Rattle.pf_model.specs.Particle.{Particle}
use Rattle.pf_model.specs.Division.{Division, IsDivision}
use Rattle.pf_model.specs.Domains.{IsMultisection, cuts_of, y_cuts, z_cuts, cuts_for}
use Rattle.pf_geom.specs.Position.{along}
use Rattle.pf_model.specs.Domains.{in_slab_along, column_cuts}
use Rattle.step_core.proofs.CutLemmas.{slab_short}
use Rattle.step_core.proofs.RangeLemmas.{range_next}
use Rattle.step_core.proofs.cutting.cut.Goals as goal

pub cut_slab-requires : goal.cut_slab-requires
cut_slab-requires c =
    let long = ap length (c.deref-in-loop-ix.ensures.value ∙ c.in_ok-slab.ensures) in
    let short = slab_short X c.deref.result.now c.args.bodies.now c.loop-ix.ix in
    let few = c.requires in
    omega arith

pub loop-ix-preserved : goal.loop-ix-preserved
loop-ix-preserved c =
    let g = c.args.grid in
    let js = c.args.bodies.now in
    let ix = c.loop-ix.ix in
    let nx = ap (λ (h : Division). h.nx) c.grid.view_is in
    let x = c.deref.ensures.value ∙ c.in_ok-x.ensures ∙ ap (cuts_of (along X) js) nx in
    let slab = c.deref-in-loop-ix.ensures.value ∙ c.in_ok-slab.ensures ∙ ap (λ (cuts : List ℕ). in_slab_along X cuts js ix) x in
    record {
      along_y =
          c.in_ok-cut_slab.ensures.y
          ∙ range_next (y_cuts g js) ix c.loop-ix.y.items (cuts_of (along Y) c.deref-in-loop-ix.result.now g.ny) c.loop-ix.invariant.along_y (ap (λ (l : List Particle). cuts_of (along Y) l g.ny) slab);
      along_z =
          c.in_ok-cut_slab.ensures.z
          ∙ range_next (λ ix. flat_map (z_cuts g js ix) (range_with_len 0 g.ny)) ix c.loop-ix.z.items (column_cuts g c.deref-in-loop-ix.result.now) c.loop-ix.invariant.along_z (ap (column_cuts g) slab);
    }

same : (c : goal.After-loop-ix) → record { grid = c.args.grid; x = c.in_ok-x.x.items; y = c.loop-ix.y.items; z = c.loop-ix.z.items } ≡ cuts_for c.args.grid c.args.bodies.now
unfolding cuts_for
same c =
    let g = c.args.grid in
    let js = c.args.bodies.now in
    let nx = ap (λ (h : Division). h.nx) c.grid.view_is in
    let done : c.loop-ix.ix ≡ g.nx = (let past = c.loop-ix-test.false in let within = c.loop-ix.auto.ix-end in omega arith) in
    let x = c.in_ok-x.ensures ∙ ap (cuts_of (along X) js) nx in
    let y = c.loop-ix.invariant.along_y ∙ ap (λ n. flat_map (y_cuts g js) (range_with_len 0 n)) done in
    let z = c.loop-ix.invariant.along_z ∙ ap (λ n. flat_map (λ ix. flat_map (z_cuts g js ix) (range_with_len 0 g.ny)) (range_with_len 0 n)) done in
    λ i. record { grid = g; x = x i; y = y i; z = z i }

pub invariant_of-result : goal.invariant_of-result
invariant_of-result c =
    subst IsMultisection (sym (same c)) (c.cuts_ascend.ensures c.args.grid c.args.bodies.now (subst IsDivision c.grid.view_is c.grid.invariant) c.are_positions.ensures)

pub returns : goal.returns
returns c = same c
