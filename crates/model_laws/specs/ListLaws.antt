-- Laws of interaction lists.
use Rattle.std.specs.Prelude.{◌≡◌, ℕ, ◌<◌, ◌≤◌, ◌↔◌, ◌⊎◌, ⊤, List, length, map, Some, None, All, Contains}
use Rattle.std.specs.Prelude.{IsTrue, IsPermutation, slice_index_or}
use Rattle.pf_geom.specs.declared.cell.TheConstants.{DEEPEST}
use Rattle.pf_geom.specs.Position.{Position, IsPosition}
use Rattle.pf_geom.specs.Bounds.{Bounds, IsBox, IsInBox}
use Rattle.pf_geom.specs.Octant.{Octant, IsCell, cell_at, ancestor_at}
use Rattle.pf_model.specs.declared.entry.Entry.{Entry}
use Rattle.pf_model.specs.declared.entry.Entry.TheVariants.{Cell, One}
use Rattle.pf_model.specs.Particle.{Particle}
use Rattle.pf_model.specs.Particles.{HaveDistinctIds, by_id}
use Rattle.pf_model.specs.Criterion.{Criterion, IsCriterion, Passes}
use Rattle.pf_model.specs.Totals.{Totals}
use Rattle.pf_model.specs.Sums.{moment_of}
use Rattle.pf_model.specs.Group.{particles_in}
use Rattle.order_laws.specs.OrderLaws.{IsStrictOrder}
use Rattle.pf_model.specs.Interaction.{level_of, entry_of, comes_before, entry_place, IsInListOrder, list_of, members_of}

-- the position's cell passes at this level, and at no lower one
pub record IsFirstPassing (t : Criterion) (box : Bounds) (p : Position) (level : ℕ) : Type 0 where
  pub within : level ≤ DEEPEST
  pub passes : Passes box (cell_at p level) t
  pub lowest : (lower : ℕ) → lower < level → Passes box (cell_at p lower) t → ⊥

-- none of the position's cells passes
abbrev pub NonePasses : Criterion → Bounds → Position → Type 0
NonePasses t box p = (level : ℕ) → level ≤ DEEPEST → Passes box (cell_at p level) t → ⊥

-- the level of a position is the least at which its cell passes
abbrev pub LevelsAreLeast : Type 0
LevelsAreLeast =
    (t : Criterion) (box : Bounds) (p : Position) → ((level_of t box p ≡ None) ↔ NonePasses t box p) ×
    ((level : ℕ) → (level_of t box p ≡ Some level) ↔ IsFirstPassing t box p level)

-- the entries that the particles js lead to, each once, in order
pub record IsListOf (t : Criterion) (box : Bounds) (js : List Particle) (es : List Entry) : Type 0 where
  pub ordered : IsInListOrder es
  pub complete : (j : Particle) → Contains js j → Contains es (entry_of t box js j)
  pub sound : (e : Entry) → Contains es e → (j : Particle) × Contains js j × (e ≡ entry_of t box js j)

-- the list over particles is the one list of the entries that they lead to, each once, in order
abbrev pub ListsHoldTheirEntries : Type 0
ListsHoldTheirEntries =
    (t : Criterion) (box : Bounds) (js : List Particle) (es : List Entry) → HaveDistinctIds js →
    IsListOf t box js es ↔ (es ≡ list_of t box js)

-- of the entries of a list over particles, exactly one has the particle as a member
abbrev pub EachIsInOneEntry : Type 0
EachIsInOneEntry =
    (t : Criterion) (box : Bounds) (js : List Particle) (j : Particle) → HaveDistinctIds js → Contains js j →
    (k : ℕ) × (k < length (list_of t box js)) × ((i : ℕ) (e : Entry) → i < length (list_of t box js) →
    Contains (members_of t box js (slice_index_or (list_of t box js) i e)) j ↔ (i ≡ k))

-- the order of particles changes nothing in a list over them
abbrev pub ListsIgnoreOrder : Type 0
ListsIgnoreOrder =
    (t : Criterion) (box : Bounds) (js ks : List Particle) → HaveDistinctIds js → IsPermutation js ks →
    list_of t box js ≡ list_of t box ks

-- a list is no longer than its particles
abbrev pub ListsAreShort : Type 0
ListsAreShort = (t : Criterion) (box : Bounds) (js : List Particle) → length (list_of t box js) ≤ length js

-- the particles that lead to the first passing cell of a position are those in it
abbrev pub FirstCellsHoldTheirMembers : Type 0
FirstCellsHoldTheirMembers =
    (t : Criterion) (box : Bounds) (p : Position) (level : ℕ) (js : List Particle) → IsFirstPassing t box p level →
    members_of t box js (Cell (cell_at p level) (moment_of (particles_in (cell_at p level) js)))
    ≡ particles_in (cell_at p level) js

-- the cell passes, and no cell above it does
pub record IsFirstCell (t : Criterion) (box : Bounds) (c : Octant) : Type 0 where
  pub passes : Passes box c t
  pub lowest : (lower : ℕ) → lower < c.level → Passes box (ancestor_at c lower) t → ⊥

-- a cell is in a list exactly where it passes, no cell above it does, and some particle lies in it; its members are
-- all particles in it
abbrev pub ListsHoldFirstCells : Type 0
ListsHoldFirstCells =
    (t : Criterion) (box : Bounds) (js : List Particle) (c : Octant) (m : Totals) → HaveDistinctIds js → IsCell c →
    Contains (list_of t box js) (Cell c m) ↔ (IsFirstCell t box c × (1 ≤ length (particles_in c js)) ×
    (m ≡ moment_of (particles_in c js)))

-- a particle is in a list as itself exactly where none of its cells passes
abbrev pub ListsHoldNearParticles : Type 0
ListsHoldNearParticles =
    (t : Criterion) (box : Bounds) (js : List Particle) (p : Particle) → HaveDistinctIds js →
    Contains (list_of t box js) (One p) ↔ (Contains js p × NonePasses t box p.at)

-- so is each that lies in the box
abbrev pub ParticlesInTheBoxAreNear : Type 0
ParticlesInTheBoxAreNear =
    (t : Criterion) (box : Bounds) (p : Position) → IsCriterion t → IsBox box → IsPosition p → IsInBox p box →
    NonePasses t box p

-- where none of the cells of any particle passes, the list is the particles by id
abbrev pub ListsOfNearAreParticles : Type 0
ListsOfNearAreParticles =
    (t : Criterion) (box : Bounds) (js : List Particle) → All (λ j. NonePasses t box j.at) js →
    list_of t box js ≡ map One (by_id js)

-- the order of entries is strict
abbrev pub EntryOrderIsStrict : Type 0
EntryOrderIsStrict = IsStrictOrder comes_before

-- an entry that is a cell has a level that there is
abbrev pub HasLevel : Entry → Type 0
HasLevel (Cell c m) = c.level ≤ DEEPEST
HasLevel (One p) = ⊤

-- so has each entry that particles lead to
abbrev pub EntriesHaveLevels : Type 0
EntriesHaveLevels = (t : Criterion) (box : Bounds) (js : List Particle) (j : Particle) → HasLevel (entry_of t box js j)

-- one place is lower than another
abbrev pub IsLowerPlace : ℕ × ℕ → ℕ × ℕ → Type 0
IsLowerPlace a b = (a.0 < b.0) ⊎ ((a.0 ≡ b.0) × (a.1 < b.1))

-- an entry comes before another exactly where its place is lower
abbrev pub EntriesStandByPlace : Type 0
EntriesStandByPlace =
    (e f : Entry) → HasLevel e → HasLevel f → IsTrue (comes_before e f) ↔ IsLowerPlace (entry_place e) (entry_place f)

-- entries of particles at one place are one
abbrev pub EntriesAtOnePlaceAreOne : Type 0
EntriesAtOnePlaceAreOne =
    (t : Criterion) (box : Bounds) (js : List Particle) (i j : Particle) → HaveDistinctIds js → Contains js i →
    Contains js j → entry_place (entry_of t box js i) ≡ entry_place (entry_of t box js j) →
    entry_of t box js i ≡ entry_of t box js j
