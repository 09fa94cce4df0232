-- The ranks that an inbox hears from, and lists with each of them once.
use Rattle.std.specs.Prelude.{◌≡◌, ◌≢◌, ℕ, ◌<◌, ◌==◌, not, List, filter, count_by}
use Rattle.std.specs.List.{range_with_len}

-- each other rank is a source
abbrev pub IsSource : ℕ → ℕ → ℕ → Type 0
IsSource rank ranks s = (s < ranks) × (s ≢ rank)

-- the ranks but this one among n ranks from the first on, and among all
abbrev pub others_from : ℕ → ℕ → ℕ → List ℕ
others_from rank first n = filter (λ s. not (s == rank)) (range_with_len first n)

abbrev pub others : ℕ → ℕ → List ℕ
others rank ranks = others_from rank 0 ranks

-- how often x stands in the list
abbrev pub times : ℕ → List ℕ → ℕ
times x xs = count_by (λ y. y == x) xs

-- each source stands in the list once, and no other number does
pub record HasEachSource (rank ranks : ℕ) (xs : List ℕ) : Type 0 where
  pub each : (s : ℕ) → IsSource rank ranks s → times s xs ≡ 1
  pub others : (s : ℕ) → ¬ (IsSource rank ranks s) → times s xs ≡ 0
