-- The decimal forms of the numbers below 63.
use Rattle.std.proofs.Common.{◌≡◌, ℕ, ◌+◌, ◌-◌, ◌*◌, ◌/◌, ◌%◌, ◌<◌, ◌≤◌, ◌⊎◌, [], ◌∷◌, ◌++◌, length, sym, ap, ◌∙◌, inl, inr, ⊎_elim, arith}
use Rattle.std.proofs.lemmas.Bool.{cases_lt}
use Rattle.std.proofs.lemmas.Fmt.{decimal_digit, decimal_step}
use Rattle.std.specs.Fmt.{decimal}

-- two digits, the first of which isn't zero
pub decimal_two : (tens ones : ℕ) → 0 < tens → tens < 10 → ones < 10 → decimal (10 * tens + ones) ≡ (48 + tens) ∷ (48 + ones) ∷ []
decimal_two tens ones above below small =
    let quotient : (10 * tens + ones) / 10 ≡ tens = omega arith in
    let rest : (10 * tens + ones) % 10 ≡ ones = omega arith in
    decimal_step (10 * tens + ones) (omega arith) (omega arith)
    ∙ ap (λ n. decimal n ++ ((48 + (10 * tens + ones) % 10) ∷ [])) quotient
    ∙ ap (λ n. decimal tens ++ ((48 + n) ∷ [])) rest
    ∙ ap (λ ds. ds ++ ((48 + ones) ∷ [])) (decimal_digit tens below)

-- one digit or two
pub decimal_forms : (n : ℕ) → n ≤ 62 → ((n < 10) × (decimal n ≡ (48 + n) ∷ [])) ⊎ ((10 ≤ n) × (decimal n ≡ (48 + n / 10) ∷ (48 + n % 10) ∷ []))
decimal_forms n limit =
    ⊎_elim
    (λ small. inl (small, decimal_digit n small))
    (λ large. inr (large, ap decimal (let split : n ≡ 10 * (n / 10) + n % 10 = omega arith in split) ∙ decimal_two (n / 10) (n % 10) (omega arith) (omega arith) (omega arith)))
    (cases_lt n 10)

pub decimal_lengths : (n : ℕ) → n ≤ 62 → (length (decimal n) ≡ 1) ⊎ (length (decimal n) ≡ 2)
decimal_lengths n limit =
    ⊎_elim (λ one. inl (ap length one.1)) (λ two. inr (ap length two.1)) (decimal_forms n limit)

-- a byte that is a decimal form is a digit
pub one_digit_from_decimal : (ones n : ℕ) → n ≤ 62 → ones ∷ [] ≡ decimal n → (48 ≤ ones) × (ones ≤ 57)
one_digit_from_decimal ones n limit is =
    ⊎_elim
    (λ one. let heads : ones ∷ [] ≡ (48 + n) ∷ [] = is ∙ one.1 in let same : ones ≡ 48 + n = cc in (omega arith, omega arith))
    (λ two. let heads : ones ∷ [] ≡ (48 + n / 10) ∷ (48 + n % 10) ∷ [] = is ∙ two.1 in cc)
    (decimal_forms n limit)

pub decimal_of_one : (ones : ℕ) → 48 ≤ ones → ones ≤ 57 → ones ∷ [] ≡ decimal (ones - 48)
decimal_of_one ones low high =
    let same : 48 + (ones - 48) ≡ ones = omega arith in
    ap (λ d. d ∷ []) (sym same) ∙ sym (decimal_digit (ones - 48) (omega arith))

-- two bytes that are a decimal form
pub two_digits_from_decimal : (tens ones n : ℕ) → n ≤ 62 → tens ∷ ones ∷ [] ≡ decimal n → (49 ≤ tens) × (tens ≤ 54) × (48 ≤ ones) × (ones ≤ 57) × (10 * tens + ones ≤ 590)
two_digits_from_decimal tens ones n limit is =
    ⊎_elim
    (λ one. let heads : tens ∷ ones ∷ [] ≡ (48 + n) ∷ [] = is ∙ one.1 in cc)
    (λ two.
    let heads : tens ∷ ones ∷ [] ≡ (48 + n / 10) ∷ (48 + n % 10) ∷ [] = is ∙ two.1 in
    let first : tens ≡ 48 + n / 10 = cc in
    let second : ones ≡ 48 + n % 10 = cc in
    (omega arith, omega arith, omega arith, omega arith, omega arith))
    (decimal_forms n limit)

pub decimal_of_two : (tens ones : ℕ) → 49 ≤ tens → tens ≤ 57 → 48 ≤ ones → ones ≤ 57 → tens ∷ ones ∷ [] ≡ decimal (10 * (tens - 48) + (ones - 48))
decimal_of_two tens ones low high from upto =
    let first : 48 + (tens - 48) ≡ tens = omega arith in
    let second : 48 + (ones - 48) ≡ ones = omega arith in
    ap (λ d. d ∷ ones ∷ []) (sym first) ∙ ap (λ d. (48 + (tens - 48)) ∷ d ∷ []) (sym second)
    ∙ sym (decimal_two (tens - 48) (ones - 48) (omega arith) (omega arith) (omega arith))
