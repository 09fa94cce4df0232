-- Laws of boxes, and of the gaps between them and cells.
use Rattle.std.specs.Prelude.{◌≡◌, ◌*◌, ◌^◌, ◌<◌, ◌≤◌, ◌↔◌}
use Rattle.pf_geom.specs.declared.edge.Edge.{Edge}
use Rattle.pf_geom.specs.Position.{Position, IsPosition}
use Rattle.pf_geom.specs.Bounds.{Bounds, IsBox, IsInBox, IsWithin, IsLeastRound, box_round}
use Rattle.pf_geom.specs.Octant.{Octant, IsCell, IsIn, IsInside}
use Rattle.pf_geom.specs.Gap.{gap2_to}

-- the box round a box and a position is the least one that holds both
abbrev pub BoxesRoundAreLeast : Type 0
BoxesRoundAreLeast =
    (b : Bounds) (p : Position) → IsBox b → IsPosition p → IsBox (box_round b p) × IsLeastRound b p (box_round b p)

-- each square of a gap is below 3 · 2^60
abbrev pub GapsAreBounded : Type 0
GapsAreBounded = (edge : Edge) (b : Bounds) (c : Octant) → IsBox b → IsCell c → gap2_to edge b c < 3 * 2 ^ 60

-- a box inside a box has a gap at least as great
abbrev pub GapsGrowAsBoxesShrink : Type 0
GapsGrowAsBoxesShrink =
    (edge : Edge) (inner outer : Bounds) (c : Octant) → IsBox inner → IsBox outer → IsWithin inner outer → IsCell c →
    gap2_to edge outer c ≤ gap2_to edge inner c

-- a cell inside a cell has a gap at least as great
abbrev pub GapsGrowAsCellsShrink : Type 0
GapsGrowAsCellsShrink =
    (edge : Edge) (b : Bounds) (inner outer : Octant) → IsBox b → IsCell inner → IsCell outer → IsInside inner outer →
    gap2_to edge b outer ≤ gap2_to edge b inner

-- the gap is 0 exactly where the box and the cell share a position
abbrev pub GapsVanishWhereShared : Type 0
GapsVanishWhereShared =
    (edge : Edge) (b : Bounds) (c : Octant) → IsBox b → IsCell c → (gap2_to edge b c ≡ 0) ↔
    ((p : Position) × IsPosition p × IsInBox p b × IsIn p c)
