-- Laws of groups.
use Rattle.std.specs.Prelude.{◌≡◌, ℕ, ◌<◌, ◌≤◌, ◌↔◌, List, length, IsTrue, All, AllPairs, Contains, IsPermutation}
use Rattle.std.specs.Prelude.{slice_index_or}
use Rattle.pf_geom.specs.declared.cell.TheConstants.{DEEPEST}
use Rattle.pf_geom.specs.Position.{Position, IsPosition}
use Rattle.pf_geom.specs.Bounds.{Bounds, IsBox, IsInBox, IsWithin}
use Rattle.pf_geom.specs.Octant.{Octant, cell_at, IsIn}
use Rattle.pf_model.specs.Particle.{Particle}
use Rattle.pf_model.specs.Group.{particles_in, group_level, group_cell, group_of, box_of, has_lower_corner, group_cells}

-- what the level of a position's group is: no more of the particles than the limit lie in its cell there, unless
-- it is the deepest, and more than the limit in each one above
pub record IsGroupLevel (limit : ℕ) (own : List Particle) (p : Position) (level : ℕ) : Type 0 where
  pub within : level ≤ DEEPEST
  pub few : level < DEEPEST → length (particles_in (cell_at p level) own) ≤ limit
  pub many_above : (lower : ℕ) → lower < level → limit < length (particles_in (cell_at p lower) own)

-- no other level is this
abbrev pub GroupLevelsAreLeast : Type 0
GroupLevelsAreLeast =
    (limit : ℕ) (own : List Particle) (p : Position) (level : ℕ) → (level ≡ group_level limit own p) ↔
    IsGroupLevel limit own p level

-- a position in the cell of a group has this cell as that of its own group
abbrev pub PositionsShareTheirGroup : Type 0
PositionsShareTheirGroup =
    (limit : ℕ) (own : List Particle) (p q : Position) → IsIn q (group_cell limit own p) →
    group_cell limit own q ≡ group_cell limit own p

-- the members of a particle's group are particles with this group, and it is one of them
abbrev pub MembersShareTheirGroup : Type 0
MembersShareTheirGroup =
    (limit : ℕ) (own : List Particle) (i j : Particle) → Contains own i → Contains (group_of limit own i) i ×
    (Contains (group_of limit own i) j ↔ (Contains own j × (group_cell limit own j.at ≡ group_cell limit own i.at)))

-- the cells of the groups of these particles, each once, in the order of the groups' numbers
pub record AreGroupCells (limit : ℕ) (own : List Particle) (cells : List Octant) : Type 0 where
  pub ordered : AllPairs (λ c d. IsTrue (has_lower_corner c d)) cells
  pub complete : (j : Particle) → Contains own j → Contains cells (group_cell limit own j.at)
  pub sound : (c : Octant) → Contains cells c → (j : Particle) × Contains own j × (c ≡ group_cell limit own j.at)

-- no other list is this
abbrev pub GroupCellsAreOrdered : Type 0
GroupCellsAreOrdered =
    (limit : ℕ) (own : List Particle) (cells : List Octant) → AreGroupCells limit own cells ↔
    (cells ≡ group_cells limit own)

-- there are no more of them than particles
abbrev pub GroupsAreFew : Type 0
GroupsAreFew = (limit : ℕ) (own : List Particle) → length (group_cells limit own) ≤ length own

-- of these cells exactly one holds a particle
abbrev pub EachIsInOneGroup : Type 0
EachIsInOneGroup =
    (limit : ℕ) (own : List Particle) (j : Particle) → Contains own j →
    (k : ℕ) × (k < length (group_cells limit own)) × ((i : ℕ) (c : Octant) → i < length (group_cells limit own) →
    IsIn j.at (slice_index_or (group_cells limit own) i c) ↔ (i ≡ k))

-- the order of particles changes the cells of groups in nothing, and their members in their order alone
abbrev pub GroupsIgnoreOrder : Type 0
GroupsIgnoreOrder =
    (limit : ℕ) (js ks : List Particle) → IsPermutation js ks →
    ((p : Position) → group_cell limit js p ≡ group_cell limit ks p) × (group_cells limit js ≡ group_cells limit ks) ×
    ((c : Octant) → IsPermutation (particles_in c js) (particles_in c ks))

-- with the limit 1 a group is what lies at one place
abbrev pub GroupsOfOneAreOnePlace : Type 0
GroupsOfOneAreOnePlace =
    (own : List Particle) (i : Particle) → All (λ j. IsPosition j.at) own → Contains own i →
    ((j : Particle) → Contains own j → IsIn j.at (group_cell 1 own i.at) ↔ (j.at ≡ i.at)) ×
    (box_of (group_of 1 own i) ≡ record { lo = i.at; hi = i.at })

-- b is the least box round the particles
pub record IsLeastRoundAll (js : List Particle) (b : Bounds) : Type 0 where
  pub box : IsBox b
  pub holds : All (λ j. IsInBox j.at b) js
  pub least : (other : Bounds) → All (λ j. IsInBox j.at other) js → IsWithin b other

-- the box of particles, of which there is at least one, is the least round them
abbrev pub BoxesAreLeast : Type 0
BoxesAreLeast = (js : List Particle) → 1 ≤ length js → All (λ j. IsPosition j.at) js → IsLeastRoundAll js (box_of js)

-- and their order changes nothing in it
abbrev pub BoxesIgnoreOrder : Type 0
BoxesIgnoreOrder = (js ks : List Particle) → IsPermutation js ks → box_of js ≡ box_of ks
