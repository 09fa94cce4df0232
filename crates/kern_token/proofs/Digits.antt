-- The value of a run of digits.
use Rattle.std.proofs.Common.{◌≡◌, ℕ, zero, suc, ◌+◌, ◌*◌, ◌<◌, ◌≤◌, List, [], ◌∷◌, length, get_or, take, arith}
use Rattle.std.proofs.lemmas.Str.{digit_value_digit}
use Rattle.std.proofs.lemmas.Str.Parse.{digit_from_value}
use Rattle.std.specs.Char.{digit_value}
use Rattle.std.specs.Str.Parse.{AllDigits, digits_value, digits_value_after}

-- each byte is 48 above its value
pub digit_at : (ds : List ℕ) (i : ℕ) → i < length ds → AllDigits 10 ds → (digit_value (get_or ds i 0) + 48 ≡ get_or ds i 0) × (digit_value (get_or ds i 0) < 10)
digit_at [] i inside digits = absurd (omega arith)
digit_at (d ∷ ds) zero inside digits = (digit_value_digit d (digit_from_value d digits.0), digits.0)
digit_at (d ∷ ds) (suc i) inside digits = digit_at ds i (omega arith) digits.1

value_after-le : (n : ℕ) (ds : List ℕ) → n ≤ digits_value_after 10 n ds
value_after-le n [] = omega arith
value_after-le n (d ∷ ds) = omega (arith, value_after-le (n * 10 + digit_value d) ds)

value_after-take-le : (i n : ℕ) (ds : List ℕ) → digits_value_after 10 n (take i ds) ≤ digits_value_after 10 n ds
value_after-take-le zero n ds = value_after-le n ds
value_after-take-le (suc i) n [] = omega arith
value_after-take-le (suc i) n (d ∷ ds) = value_after-take-le i (n * 10 + digit_value d) ds

-- more digits make no smaller number
pub digits_value-take-le : (i : ℕ) (ds : List ℕ) → digits_value 10 (take i ds) ≤ digits_value 10 ds
digits_value-take-le i ds = value_after-take-le i 0 ds
