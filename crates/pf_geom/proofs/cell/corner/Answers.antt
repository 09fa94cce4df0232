use Rattle.std.proofs.Common.{ap, ◌∙◌, subst, arith, ◌/◌}
use Rattle.pf_geom.specs.Octant.{IsCell, corner_of}
use Rattle.pf_geom.proofs.CellLemmas.{octant}
use Rattle.pf_geom.proofs.CornerLemmas.{IsRead, read_fits, IsInCube-read, corner_of-read, IsCornerOf-corner_of}
use Rattle.pf_geom.proofs.cell.corner.Goals as goal

read : (c : goal.After-coordinates-x) → IsRead (octant c.c.inside.level c.c.inside.key) c.side_of-side.result c.coordinates-x.result.0 c.coordinates-x.result.1 c.coordinates-x.result.2
read c = record {
  side_is = c.side_of-side.ensures;
  x_is = c.coordinates-x.ensures.x;
  y_is = c.coordinates-x.ensures.y;
  z_is = c.coordinates-x.ensures.z;
}

pub overflow_mul-result : goal.overflow_mul-result
overflow_mul-result c =
    omega (arith, read_fits c.c.inside.level c.side_of-side.result c.coordinates-x.result.0 (c.c.inside.key / 4) c.c.invariant.level_fits c.side_of-side.ensures c.coordinates-x.ensures.x)

pub overflow_mul-result-2 : goal.overflow_mul-result-2
overflow_mul-result-2 c =
    omega (arith, read_fits c.c.inside.level c.side_of-side.result c.coordinates-x.result.1 (c.c.inside.key / 2) c.c.invariant.level_fits c.side_of-side.ensures c.coordinates-x.ensures.y)

pub overflow_mul-result-3 : goal.overflow_mul-result-3
overflow_mul-result-3 c =
    omega (arith, read_fits c.c.inside.level c.side_of-side.result c.coordinates-x.result.2 c.c.inside.key c.c.invariant.level_fits c.side_of-side.ensures c.coordinates-x.ensures.z)

pub invariant_of-result : goal.invariant_of-result
invariant_of-result c = IsInCube-read _ _ _ _ _ c.c.invariant (read c)

pub returns-clause-value : goal.returns-clause-value
returns-clause-value c =
    corner_of-read _ _ _ _ _ c.c.invariant (read c) ∙ ap corner_of c.c.view_is

pub returns-clause-in_cell : goal.returns-clause-in_cell
returns-clause-in_cell c =
    rw (returns-clause-value c) (IsCornerOf-corner_of c.args.c (subst IsCell c.c.view_is c.c.invariant))
