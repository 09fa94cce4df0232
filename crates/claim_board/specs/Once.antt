-- Lists of numbers, each once.
use Rattle.std.specs.Prelude.{◌≡◌, ℕ, ◌<◌, ◌≤◌, ◌==◌, List, count_by, IsPermutation}
use Rattle.std.specs.List.{range_with_len}

-- how often x stands in the list
abbrev pub times : ℕ → List ℕ → ℕ
times x xs = count_by (λ y. y == x) xs

-- each number below n stands in the list once, and no other number does
pub record HasEachOnce (n : ℕ) (xs : List ℕ) : Type 0 where
  pub each : (x : ℕ) → x < n → times x xs ≡ 1
  pub others : (x : ℕ) → n ≤ x → times x xs ≡ 0

-- such a list is the numbers below n, in some order
abbrev pub NumbersOnceStandInSomeOrder : Type 0
NumbersOnceStandInSomeOrder = (n : ℕ) (xs : List ℕ) → HasEachOnce n xs → IsPermutation xs (range_with_len 0 n)
