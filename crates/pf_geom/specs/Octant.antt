-- Cells: at each level from 0 to 30 the cube is cut into 8 ^ level equal cubes.
use Rattle.std.specs.Prelude.{◌≡◌, ℕ, ◌+◌, ◌-◌, ◌*◌, ◌/◌, ◌^◌, ◌<◌, ◌≤◌}
use Rattle.pf_geom.specs.declared.cell.TheConstants.{DEEPEST}
use Rattle.pf_geom.specs.Position.{Position, IsPosition}
use Rattle.pf_geom.specs.Bounds.{Bounds}
use Rattle.pf_geom.specs.Key.{morton_key, position_of_key}

-- a cell as clauses see it: its level, and its key among the cells of that level
pub record Octant : Type 0 where
  pub level : ℕ
  pub key : ℕ

-- a level is at most 30, and the keys of its cells are below 8 ^ level
pub record IsOctant (level key : ℕ) : Type 0 where
  pub level_fits : level ≤ DEEPEST
  pub key_fits : key < 8 ^ level

-- a cell that a `Cell` can be
abbrev pub IsCell : Octant → Type 0
IsCell c = IsOctant c.level c.key

-- the side of the cells of a level
abbrev pub side_at : ℕ → ℕ
side_at level = 2 ^ (DEEPEST - level)

-- the coordinates of two positions, divided by the side of a level and floored, are equal
pub record HaveEqualFloors (level : ℕ) (p q : Position) : Type 0 where
  pub same_x : p.x / side_at level ≡ q.x / side_at level
  pub same_y : p.y / side_at level ≡ q.y / side_at level
  pub same_z : p.z / side_at level ≡ q.z / side_at level

-- the cell of a position at a level: its key is the position's, shifted right by 3(30 - level)
abbrev pub cell_at : Position → ℕ → Octant
cell_at p level = record { level = level; key = morton_key p / 8 ^ (DEEPEST - level) }

-- the position lies in the cell
abbrev pub IsIn : Position → Octant → Type 0
IsIn p c = cell_at p c.level ≡ c

-- each position of the one cell lies in the other
abbrev pub IsInside : Octant → Octant → Type 0
IsInside inner outer = (p : Position) → IsPosition p → IsIn p inner → IsIn p outer

-- the cell of a level, at most its own, that a cell lies in
abbrev pub ancestor_at : Octant → ℕ → Octant
ancestor_at c level = record { level = level; key = c.key / 8 ^ (c.level - level) }

-- the greatest multiple of the side that is at most n
abbrev pub floor_to : ℕ → ℕ → ℕ
floor_to side n = n / side * side

-- a position with each coordinate floored to a multiple of the side of a level
abbrev pub floor_at : Position → ℕ → Position
floor_at p level =
    let side = side_at level in
    record { x = floor_to side p.x; y = floor_to side p.y; z = floor_to side p.z }

-- the corner of a cell: the position whose key is the cell's, followed by 3(30 - level) zeros
unfoldable pub corner_of : Octant → Position
corner_of c = position_of_key (c.key * 8 ^ (DEEPEST - c.level))

-- the corner of a cell lies in it, and its coordinates are multiples of the side
pub record IsCornerOf (c : Octant) (p : Position) : Type 0 where
  pub in_cell : IsIn p c
  pub on_multiples : floor_at p c.level ≡ p

-- the closed box of a cell: from the corner to the corner plus side - 1 on each axis
unfoldable pub closed_box : Octant → Bounds
closed_box c =
    let lo = corner_of c in
    let reach = side_at c.level - 1 in
    record { lo = lo; hi = record { x = lo.x + reach; y = lo.y + reach; z = lo.z + reach } }
