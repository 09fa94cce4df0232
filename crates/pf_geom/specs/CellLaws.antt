-- Laws of keys and cells.
use Rattle.std.specs.Prelude.{◌≡◌, ℕ, ◌+◌, ◌-◌, ◌*◌, ◌%◌, ◌^◌, ◌<◌, ◌≤◌, ◌↔◌}
use Rattle.pf_geom.specs.declared.cell.TheConstants.{DEEPEST}
use Rattle.pf_geom.specs.Position.{Position, IsPosition}
use Rattle.pf_geom.specs.Bounds.{IsBox, IsInBox}
use Rattle.pf_geom.specs.Key.{morton_key, HasBitsOf}
use Rattle.pf_geom.specs.Octant.{Octant, IsCell, HaveEqualFloors, cell_at, IsIn, IsInside, ancestor_at, corner_of}
use Rattle.pf_geom.specs.Octant.{floor_at, IsCornerOf, closed_box}

-- the bits of a position's key are the bits of its coordinates
abbrev pub KeysInterleave : Type 0
KeysInterleave = (p : Position) → IsPosition p → HasBitsOf p (morton_key p)

-- two positions have one key exactly where they are one position
abbrev pub KeysAreDistinct : Type 0
KeysAreDistinct = (p q : Position) → IsPosition p → IsPosition q → (morton_key p ≡ morton_key q) ↔ (p ≡ q)

-- a key has at most three bits for each level
abbrev pub KeysFit : Type 0
KeysFit = (p : Position) → morton_key p < 2 ^ 90

-- the cell of x at a level is the set of the positions whose floored coordinates there equal those of x
abbrev pub CellsHaveEqualFloors : Type 0
CellsHaveEqualFloors =
    (p x : Position) (level : ℕ) → IsPosition p → IsPosition x → level ≤ DEEPEST → IsIn p (cell_at x level) ↔
    HaveEqualFloors level p x

-- a level takes three bits of a key: what is shifted by them is multiplied or divided by a power of 8
abbrev pub LevelsTakeThreeBits : Type 0
LevelsTakeThreeBits = (levels : ℕ) → 2 ^ (3 * levels) ≡ 8 ^ levels

-- a key of a level, or the one past them all, loses no bit where it is shifted to the deepest level, in 128 bits
abbrev pub ShiftedKeysFit : Type 0
ShiftedKeysFit =
    (level key : ℕ) → level ≤ DEEPEST → key ≤ 8 ^ level →
    key * 2 ^ (3 * (DEEPEST - level)) % 2 ^ 128 ≡ key * 8 ^ (DEEPEST - level)

-- a position has a cell at each level
abbrev pub PositionsHaveCells : Type 0
PositionsHaveCells = (p : Position) (level : ℕ) → level ≤ DEEPEST → IsCell (cell_at p level)

-- the keys of a cell's positions are a run without gaps
abbrev pub CellsAreKeyRanges : Type 0
CellsAreKeyRanges =
    (p : Position) (c : Octant) → IsPosition p → IsCell c → IsIn p c ↔
    ((c.key * 8 ^ (DEEPEST - c.level) ≤ morton_key p) × (morton_key p < (c.key + 1) * 8 ^ (DEEPEST - c.level)))

-- the cells of a position lie in one another: the one of a lower level is the ancestor of the other
abbrev pub CellsOfAPositionNest : Type 0
CellsOfAPositionNest =
    (p : Position) (lower higher : ℕ) → lower ≤ higher → higher ≤ DEEPEST →
    ancestor_at (cell_at p higher) lower ≡ cell_at p lower

-- positions in one cell are in one cell at each lower level
abbrev pub PositionsShareLowerCells : Type 0
PositionsShareLowerCells =
    (p q : Position) (lower higher : ℕ) → lower ≤ higher → higher ≤ DEEPEST → cell_at p higher ≡ cell_at q higher →
    cell_at p lower ≡ cell_at q lower

-- a cell lies inside another exactly where that is its ancestor
abbrev pub CellsNest : Type 0
CellsNest =
    (inner outer : Octant) → IsCell inner → IsCell outer → IsInside inner outer ↔
    ((outer.level ≤ inner.level) × (ancestor_at inner outer.level ≡ outer))

-- the corner of the cell of a position has the position's coordinates, floored to multiples of the side
abbrev pub CornersAreFloors : Type 0
CornersAreFloors =
    (p : Position) (level : ℕ) → IsPosition p → level ≤ DEEPEST → corner_of (cell_at p level) ≡ floor_at p level

-- the corner of a cell is a position in it, and has the least key there
abbrev pub CornersLieInside : Type 0
CornersLieInside =
    (c : Octant) → IsCell c → IsPosition (corner_of c) × IsCornerOf c (corner_of c) ×
    (morton_key (corner_of c) ≡ c.key * 8 ^ (DEEPEST - c.level))

-- the closed box of a cell holds exactly the positions of the cell
abbrev pub ClosedBoxesHoldTheirCells : Type 0
ClosedBoxesHoldTheirCells =
    (p : Position) (c : Octant) → IsPosition p → IsCell c → IsBox (closed_box c) × (IsIn p c ↔ IsInBox p (closed_box c))
