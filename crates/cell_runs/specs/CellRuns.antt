-- Cell runs: positions in key order that stand together because they lead to one cell.
use Rattle.std.specs.Prelude.{◌≡◌, ℕ, ◌+◌, ◌<◌, ◌≤◌, ◌↔◌, List, [], ◌∷◌, length, All, Option, Some, None}
use Rattle.std.specs.Prelude.{slice_index_or}
use Rattle.pf_geom.specs.Position.{Position}
use Rattle.pf_geom.specs.Bounds.{Bounds}
use Rattle.pf_geom.specs.Octant.{cell_at}
use Rattle.pf_model.specs.Criterion.{Criterion}
use Rattle.pf_model.specs.Interaction.{level_of}
use Rattle.cell_runs.specs.declared.cell_run.CellRun.{CellRun}

-- the places of a cell run, from its first on
abbrev pub IsPlaceOf : CellRun → ℕ → Type 0
IsPlaceOf r k = (r.first ≤ k) × (k < r.first + r.len)

-- with a level, its places are those of all positions in one cell of that level; without, it is one place
abbrev pub IsWholeCell : Option ℕ → List Position → CellRun → Type 0
IsWholeCell None ps r = r.len ≡ 1
IsWholeCell (Some level) ps r =
    (k : ℕ) (p : Position) → k < length ps → IsPlaceOf r k ↔
    (cell_at (slice_index_or ps k p) level ≡ cell_at (slice_index_or ps r.first p) level)

-- a cell run of these positions: its level is that of the position at each of its places
pub record IsCellRun (t : Criterion) (box : Bounds) (ps : List Position) (r : CellRun) : Type 0 where
  pub some : 1 ≤ r.len
  pub inside : r.first + r.len ≤ length ps
  pub level : (k : ℕ) (p : Position) → IsPlaceOf r k → level_of t box (slice_index_or ps k p) ≡ r.level
  pub whole : IsWholeCell r.level ps r

-- cell runs that follow one another from the place `start` to the place `end`
abbrev pub FollowInTurn : ℕ → ℕ → List CellRun → Type 0
FollowInTurn start end [] = start ≡ end
FollowInTurn start end (r ∷ rs) = (r.first ≡ start) × FollowInTurn (start + r.len) end rs

-- the cell runs of all these positions, in their order
pub record AreCellRuns (t : Criterion) (box : Bounds) (ps : List Position) (rs : List CellRun) : Type 0 where
  pub each : All (IsCellRun t box ps) rs
  pub in_turn : FollowInTurn 0 (length ps) rs
