-- Laws of the opening test.
use Rattle.std.specs.Prelude.{◌≡◌, ◌≤◌}
use Rattle.pf_geom.specs.Position.{Position, IsPosition}
use Rattle.pf_geom.specs.Bounds.{Bounds, IsBox, IsInBox, IsWithin}
use Rattle.pf_geom.specs.Octant.{Octant, IsCell, IsIn, IsInside}
use Rattle.pf_geom.specs.Gap.{gap2_to}
use Rattle.pf_model.specs.Criterion.{Criterion, IsCriterion, Passes}

-- a cell that passes for a box passes for every box inside it
abbrev pub CellsPassForBoxesInside : Type 0
CellsPassForBoxesInside =
    (t : Criterion) (inner outer : Bounds) (c : Octant) → IsBox inner → IsBox outer → IsWithin inner outer →
    IsCell c → Passes outer c t → Passes inner c t

-- a cell inside a cell that passes passes too
abbrev pub CellsInsidePass : Type 0
CellsInsidePass =
    (t : Criterion) (box : Bounds) (inner outer : Octant) → IsBox box → IsCell inner → IsCell outer →
    IsInside inner outer → Passes box outer t → Passes box inner t

-- a cell that passes has a gap to the box, and shares no position with it
abbrev pub PassingCellsLieApart : Type 0
PassingCellsLieApart =
    (t : Criterion) (box : Bounds) (c : Octant) → IsCriterion t → IsBox box → IsCell c → Passes box c t →
    (1 ≤ gap2_to t.edge box c) × ((p : Position) → IsPosition p → IsInBox p box → IsIn p c → ⊥)

-- at the opening angle 0 no cell passes
abbrev pub NothingPassesAtZero : Type 0
NothingPassesAtZero =
    (t : Criterion) (box : Bounds) (c : Octant) → IsCriterion t → t.a ≡ 0 → Passes box c t → ⊥
