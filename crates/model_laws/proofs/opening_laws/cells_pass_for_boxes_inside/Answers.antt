use Rattle.pf_geom.specs.Octant.{side_at}
use Rattle.model_laws.proofs.CriterionLemmas.{passes-grows}
use Rattle.std.proofs.Common.{◌≤◌, arith}
use Rattle.model_laws.proofs.opening_laws.cells_pass_for_boxes_inside.Goals as goal

pub returns : goal.returns
returns c = λ t inner outer cell inner_is outer_is within cell_is passes.
    let side : side_at cell.level ≤ side_at cell.level = omega arith in
    passes-grows _ _ _ _ t.a t.b side (c.gaps_grow_as_boxes_shrink.ensures t.edge inner outer cell inner_is outer_is within cell_is) passes
