-- How cell runs are found one after another by the keys of positions.
use Rattle.std.specs.Prelude.{◌≡◌, ℕ, zero, suc, ◌+◌, ◌-◌, ◌*◌, ◌/◌, ◌^◌, ◌<◌, ◌≤◌, ◌↔◌, List, length, Option, Some, None}
use Rattle.std.specs.Prelude.{slice_index_or}
use Rattle.pf_geom.specs.declared.cell.TheConstants.{DEEPEST}
use Rattle.pf_geom.specs.Position.{Position}
use Rattle.pf_geom.specs.Bounds.{Bounds}
use Rattle.pf_geom.specs.Octant.{Octant, cell_at}
use Rattle.pf_model.specs.Criterion.{Criterion, Passes}
use Rattle.pf_model.specs.Interaction.{level_of}

-- the cell at a level of the positions with a key
abbrev pub cell_of_key : ℕ → ℕ → Octant
cell_of_key key level = record { level = level; key = key / 8 ^ (DEEPEST - level) }

-- the first key past the cell of a key at a level
abbrev pub past_cell : ℕ → ℕ → ℕ
past_cell key level =
    let width = 8 ^ (DEEPEST - level) in
    (key / width + 1) * width

-- the place lies between cells: no first passing cell has positions on both sides of it
abbrev pub IsBetweenCells : Criterion → Bounds → List Position → ℕ → Type 0
IsBetweenCells t box ps place =
    (i k level : ℕ) (p : Position) → i < place → place ≤ k → k < length ps →
    level_of t box (slice_index_or ps i p) ≡ Some level →
    cell_at (slice_index_or ps i p) level ≡ cell_at (slice_index_or ps k p) level → ⊥

-- the key at the place before, if there is one
abbrev pub key_before : List ℕ → ℕ → Option ℕ
key_before keys zero = None
key_before keys (suc place) = Some (slice_index_or keys place 0)

-- the cell of a key at a level is also that of the key before, if there is one
abbrev pub IsShared : Option ℕ → ℕ → ℕ → Type 0
IsShared None key level = ⊥
IsShared (Some before) key level = cell_of_key before level ≡ cell_of_key key level

-- no shared cell passes
abbrev pub NoSharedPasses : Criterion → Bounds → Option ℕ → ℕ → Type 0
NoSharedPasses t box before key =
    (level : ℕ) → level ≤ DEEPEST → IsShared before key level → Passes box (cell_of_key key level) t → ⊥

-- so many keys, from the first on, are those in its cell at a level
pub record IsCellFront (keys : List ℕ) (level len : ℕ) : Type 0 where
  pub some : 1 ≤ len
  pub inside : len ≤ length keys
  pub whole : (k : ℕ) → k < length keys → (k < len) ↔
      (cell_of_key (slice_index_or keys k 0) level ≡ cell_of_key (slice_index_or keys 0 0) level)

-- as many as there are in a cell, or one where there is no cell
abbrev pub IsFront : List ℕ → Option ℕ → ℕ → Type 0
IsFront keys None len = len ≡ 1
IsFront keys (Some level) len = IsCellFront keys level len
