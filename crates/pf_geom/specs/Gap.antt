-- Gaps: how far a closed box and a cell lie apart.
use Rattle.std.specs.Prelude.{ℕ, ◌+◌, ◌-◌, ◌*◌, ◌^◌, min, max}
use Rattle.pf_geom.specs.declared.edge.Edge.{Edge}
use Rattle.pf_geom.specs.declared.edge.Edge.TheVariants.{Open, Periodic}
use Rattle.pf_geom.specs.Bounds.{Bounds}
use Rattle.pf_geom.specs.Octant.{Octant, closed_box}

-- how far two closed intervals lie apart, each given by its ends: 0 where they meet, since a difference stops at 0
abbrev pub open_gap : ℕ → ℕ → ℕ → ℕ → ℕ
open_gap lo_B hi_B lo_C hi_C = max (lo_C - hi_B) (lo_B - hi_C)

-- the least gap to the second interval as it is, moved up by 2^30, and moved down by 2^30;
-- for the last the first is moved up in its place, so that no end falls below 0
abbrev pub periodic_gap : ℕ → ℕ → ℕ → ℕ → ℕ
periodic_gap lo_B hi_B lo_C hi_C =
    let here = open_gap lo_B hi_B lo_C hi_C in
    let above = open_gap lo_B hi_B (lo_C + 2 ^ 30) (hi_C + 2 ^ 30) in
    let below = open_gap (lo_B + 2 ^ 30) (hi_B + 2 ^ 30) lo_C hi_C in
    min here (min above below)

-- the gap along one axis, by what lies past the edge of the cube
abbrev pub axis_gap : Edge → ℕ → ℕ → ℕ → ℕ → ℕ
axis_gap Open = open_gap
axis_gap Periodic = periodic_gap

abbrev pub square : ℕ → ℕ
square n = n * n

-- the squared gap between two closed boxes: the sum over the axes of the square of the gap along it
abbrev pub box_gap2 : Edge → Bounds → Bounds → ℕ
box_gap2 edge b c =
    square (axis_gap edge b.lo.x b.hi.x c.lo.x c.hi.x)
    + square (axis_gap edge b.lo.y b.hi.y c.lo.y c.hi.y)
    + square (axis_gap edge b.lo.z b.hi.z c.lo.z c.hi.z)

-- the squared gap between a closed box and a cell
unfoldable pub gap2_to : Edge → Bounds → Octant → ℕ
gap2_to edge b c = box_gap2 edge b (closed_box c)
