use Rattle.std.proofs.Common.{◌+◌, ◌*◌, ◌<◌, ◌∙◌, ap, subst, arith}
use Rattle.pf_geom.specs.Position.{Position}
use Rattle.pf_model.specs.Domains.{Multisection, IsMultisection, slab_of}
use Rattle.step_core.specs.declared.cuts.Cuts.TheInside.{Inside}
use Rattle.step_core.proofs.CutLemmas.{AreSlabs, owner_from_slabs, owner_fits, column_fits}
use Rattle.step_core.proofs.cuts.Cuts.owner.Goals as goal

pub in_column-requires : goal.in_column-requires
in_column-requires c =
    let columns = ap (λ (v : Inside). v.grid.ny) c.self-inside.view_is ∙ ap (λ (m : Multisection). m.grid.ny) c.self.view_is in
    let xs = c.deref.ensures.value ∙ ap (λ (v : Inside). v.x.items) c.self-inside.view_is ∙ ap (λ (m : Multisection). m.x) c.self.view_is in
    let at_x = ap (λ (q : Position). q.x) c.at.view_is in
    let at_y = ap (λ (q : Position). q.y) c.at.view_is in
    column_fits c.args.self.now c.args.at c.slab_of-ix.result c.slab_of-iy.result c.self-inside.inside.0.0.ny
    (subst IsMultisection c.self.view_is c.self.invariant) columns
    (c.slab_of-ix.ensures.value ∙ (λ i. slab_of (xs i) (at_x i)))
    (c.slab_of-iy.ensures.value ∙ (λ i. slab_of (c.in_slab.ensures i) (at_y i)))

multisection : (c : goal.After-row_known-2-1) → IsMultisection c.args.self.now
multisection c = subst IsMultisection c.self.view_is c.self.invariant

slabs : (c : goal.After-row_known-2-1) → AreSlabs c.args.self.now c.args.at c.slab_of-ix.result c.slab_of-iy.result c.slab_of-iz.result c.self-inside.inside.0.0.ny c.self-inside.inside.0.0.nz
slabs c =
    let columns = ap (λ (v : Inside). v.grid.ny) c.self-inside.view_is ∙ ap (λ (m : Multisection). m.grid.ny) c.self.view_is in
    let boxes = ap (λ (v : Inside). v.grid.nz) c.self-inside.view_is ∙ ap (λ (m : Multisection). m.grid.nz) c.self.view_is in
    let xs = c.deref.ensures.value ∙ ap (λ (v : Inside). v.x.items) c.self-inside.view_is ∙ ap (λ (m : Multisection). m.x) c.self.view_is in
    let at_x = ap (λ (q : Position). q.x) c.at.view_is in
    let at_y = ap (λ (q : Position). q.y) c.at.view_is in
    let at_z = ap (λ (q : Position). q.z) c.at.view_is in
    record {
      columns = columns;
      boxes = boxes;
      along_x = c.slab_of-ix.ensures.value ∙ (λ i. slab_of (xs i) (at_x i));
      along_y = c.slab_of-iy.ensures.value ∙ (λ i. slab_of (c.in_slab.ensures i) (at_y i));
      along_z = c.slab_of-iz.ensures.value ∙ (λ i. slab_of (c.in_column.ensures i) (at_z i));
    }

fits : (c : goal.After-row_known-2-1) → (c.slab_of-ix.result * c.self-inside.inside.0.0.ny + c.slab_of-iy.result) * c.self-inside.inside.0.0.nz + c.slab_of-iz.result < 64
fits c = owner_fits c.owners_by_cuts_are_ranks.ensures c.args.self.now c.args.at c.slab_of-ix.result c.slab_of-iy.result c.slab_of-iz.result c.self-inside.inside.0.0.ny c.self-inside.inside.0.0.nz (multisection c) (slabs c)

pub overflow_mul-rank : goal.overflow_mul-rank
overflow_mul-rank c = let small = fits c in omega arith

pub overflow_add-rank : goal.overflow_add-rank
overflow_add-rank c = let small = fits c in omega arith

multisection' : (c : goal.After-row_known-3-1) → IsMultisection c.args.self.now
multisection' c = subst IsMultisection c.self.view_is c.self.invariant

slabs' : (c : goal.After-row_known-3-1) → AreSlabs c.args.self.now c.args.at c.slab_of-ix.result c.slab_of-iy.result c.slab_of-iz.result c.self-inside.inside.0.0.ny c.self-inside.inside.0.0.nz
slabs' c =
    let columns = ap (λ (v : Inside). v.grid.ny) c.self-inside.view_is ∙ ap (λ (m : Multisection). m.grid.ny) c.self.view_is in
    let boxes = ap (λ (v : Inside). v.grid.nz) c.self-inside.view_is ∙ ap (λ (m : Multisection). m.grid.nz) c.self.view_is in
    let xs = c.deref.ensures.value ∙ ap (λ (v : Inside). v.x.items) c.self-inside.view_is ∙ ap (λ (m : Multisection). m.x) c.self.view_is in
    let at_x = ap (λ (q : Position). q.x) c.at.view_is in
    let at_y = ap (λ (q : Position). q.y) c.at.view_is in
    let at_z = ap (λ (q : Position). q.z) c.at.view_is in
    record {
      columns = columns;
      boxes = boxes;
      along_x = c.slab_of-ix.ensures.value ∙ (λ i. slab_of (xs i) (at_x i));
      along_y = c.slab_of-iy.ensures.value ∙ (λ i. slab_of (c.in_slab.ensures i) (at_y i));
      along_z = c.slab_of-iz.ensures.value ∙ (λ i. slab_of (c.in_column.ensures i) (at_z i));
    }

fits' : (c : goal.After-row_known-3-1) → (c.slab_of-ix.result * c.self-inside.inside.0.0.ny + c.slab_of-iy.result) * c.self-inside.inside.0.0.nz + c.slab_of-iz.result < 64
fits' c = owner_fits c.owners_by_cuts_are_ranks.ensures c.args.self.now c.args.at c.slab_of-ix.result c.slab_of-iy.result c.slab_of-iz.result c.self-inside.inside.0.0.ny c.self-inside.inside.0.0.nz (multisection' c) (slabs' c)

pub overflow_cast-result : goal.overflow_cast-result
overflow_cast-result c = let small = fits' c in omega arith

pub returns : goal.returns
returns c = owner_from_slabs c.args.self.now c.args.at c.slab_of-ix.result c.slab_of-iy.result c.slab_of-iz.result c.self-inside.inside.0.0.ny c.self-inside.inside.0.0.nz (slabs' c)
