-- The least squared gaps at which cells pass the opening test, by their level.
use Rattle.std.specs.Prelude.{◌≡◌, ℕ, ◌+◌, ◌*◌, ◌^◌, ◌<◌, ◌≤◌, ◌↔◌, List, length}
use Rattle.std.specs.Prelude.{slice_index_or}
use Rattle.pf_geom.specs.declared.cell.TheConstants.{DEEPEST}
use Rattle.pf_geom.specs.Octant.{side_at}
use Rattle.pf_geom.specs.Gap.{square}
use Rattle.pf_model.specs.Criterion.{Criterion}

-- a cell of the level passes exactly where the squared gap, which is below 3 · 2^60, is at least this
abbrev pub IsLeastGap : Criterion → ℕ → ℕ → Type 0
IsLeastGap t level least =
    (gap2 : ℕ) → gap2 < 3 * 2 ^ 60 → (least ≤ gap2) ↔ (square (side_at level) * square t.b ≤ gap2 * square t.a)

-- the same over all numbers, not gaps alone
abbrev pub IsLeastNumber : Criterion → ℕ → ℕ → Type 0
IsLeastNumber t level least = (n : ℕ) → (least ≤ n) ↔ (square (side_at level) * square t.b ≤ n * square t.a)

-- least gaps for all levels, from 0 on
pub record AreLeastGaps (t : Criterion) (gaps : List ℕ) : Type 0 where
  pub all_levels : length gaps ≡ DEEPEST + 1
  pub each : (level : ℕ) (d : ℕ) → level ≤ DEEPEST → IsLeastGap t level (slice_index_or gaps level d)
