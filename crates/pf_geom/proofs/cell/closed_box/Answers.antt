use Rattle.std.proofs.Common.{◌≡◌, ap, ◌∙◌, sym}
use Rattle.pf_geom.specs.Octant.{corner_of, closed_box}
use Rattle.pf_geom.proofs.KeyLemmas.{position}
use Rattle.pf_geom.proofs.CellLemmas.{octant}
use Rattle.pf_geom.proofs.CornerLemmas.{closed_box-read, IsPosition-reached}
use Rattle.pf_geom.proofs.cell.closed_box.Goals as goal

lo_is : (c : goal.After-struct_known-3-1) → position c.lo.inside.x c.lo.inside.y c.lo.inside.z ≡ corner_of (octant c.c.inside.level c.c.inside.key)
lo_is c = c.lo.view_is ∙ c.corner-lo.ensures.value ∙ ap corner_of (sym c.c.view_is)

pub invariant_of-hi : goal.invariant_of-hi
invariant_of-hi c = IsPosition-reached _ _ _ c.c.invariant (lo_is c) c.side_of-reach.ensures

pub returns : goal.returns
returns c =
    rw (← c.lo.view_is) (closed_box-read _ _ _ (lo_is c) c.side_of-reach.ensures ∙ ap closed_box c.c.view_is)
