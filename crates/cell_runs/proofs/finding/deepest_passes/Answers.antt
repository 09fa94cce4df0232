use Rattle.std.proofs.Common.{ℕ, sym, ◌∙◌, ap, subst, true≢false, arith}
use Rattle.pf_geom.specs.Position.{IsPosition}
use Rattle.pf_geom.specs.Bounds.{IsBox}
use Rattle.pf_geom.specs.Octant.{Octant, cell_at}
use Rattle.pf_model.specs.Criterion.{Passes}
use Rattle.cell_runs.specs.Finding.{cell_of_key}
use Rattle.cell_runs.proofs.finding.deepest_passes.Goals as goal

pub returns-clause-passes : goal.returns-clause-passes
returns-clause-passes g c = λ yes. subst (λ (o : Octant). Passes c.args.b o c.args.gaps.now) c.cell_of_key.ensures (c.passes.ensures.answer.0 yes)

pub returns-clause-none : goal.returns-clause-none
returns-clause-none g c = λ no p key level within passes.
    let t = c.args.gaps.now in
    let box : IsBox c.args.b =
    subst IsBox c.b.view_is (record { lo_fits = subst IsPosition c.from.view_is c.from.invariant; hi_fits = subst IsPosition c.to.view_is c.to.invariant; ordered = c.b.invariant }) in
    let deepest : Passes c.args.b (cell_at p 30) t =
    c.cells_inside_pass.ensures t c.args.b (cell_at p 30) (cell_at p level) box (c.positions_have_cells.ensures p 30 (omega arith)) (c.positions_have_cells.ensures p level within)
    (λ q place there. c.positions_share_lower_cells.ensures q p level 30 within (omega arith) there) passes in
    let here : Passes c.args.b c.cell_of_key.result t =
    subst (λ (o : Octant). Passes c.args.b o t) (ap (λ (k : ℕ). cell_of_key k 30) key ∙ sym c.cell_of_key.ensures) deepest in
    true≢false (sym (c.passes.ensures.answer.1 here) ∙ no)
