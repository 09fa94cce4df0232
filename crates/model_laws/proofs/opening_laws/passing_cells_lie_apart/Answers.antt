use Rattle.std.proofs.Common.{◌≤◌, arith}
use Rattle.pf_geom.specs.Gap.{gap2_to}
use Rattle.model_laws.proofs.CriterionLemmas.{gap-positive}
use Rattle.model_laws.proofs.opening_laws.passing_cells_lie_apart.Goals as goal

pub returns : goal.returns
returns c = λ t box cell t_is box_is cell_is passes.
    let positive : 1 ≤ gap2_to t.edge box cell = gap-positive cell.level _ t.a t.b t_is.denominator_positive passes in
    (positive, λ p p_is in_box in_cell. absurd (let zero = (c.gaps_vanish_where_shared.ensures t.edge box cell box_is cell_is).1 (p, p_is, in_box, in_cell) in omega arith))
