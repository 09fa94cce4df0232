-- Lists that are written back whole.
use Rattle.std.proofs.Common.{◌≡◌, ℕ, ◌≤◌, List, ◌++◌, length, take, arith}
use Rattle.std.proofs.lemmas.List.{take-append-le, take_all}

pub refilled : {A : Type 0} (n : ℕ) (ws xs : List A) → length ws ≡ n → take n (ws ++ xs) ≡ ws
refilled n ws xs long = let le : n ≤ length ws = omega arith in rw take-append-le (take_all n ws (omega arith))
