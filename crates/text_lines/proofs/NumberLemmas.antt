-- The digits of a number as they are read.
use Rattle.std.proofs.Common.{◌≡◌, ℕ, zero, suc, ◌+◌, ◌-◌, ◌*◌, ◌^◌, ◌<◌, ◌≤◌, ◌⊎◌, min, Bool, true, false, if◌then◌else◌, Some, None, Ok, Err, sym, subst, T, List, [], ◌∷◌, length, get_or, take, refl, ap, ◌∙◌, ⊎_elim, ℤ, pos, negsuc, neg_ℤ, ◌≤ℤ◌, ◌<ℤ◌, FitsSigned, w64, arith}
use Rattle.std.specs.Prelude.{int_le}
use Rattle.std.specs.Int.Signed.{le_z_yes}
use Rattle.std.specs.Char.{digit_value}
use Rattle.std.specs.Int.{w128}
use Rattle.std.proofs.lemmas.Int.{ints}
use Rattle.std.proofs.lemmas.Str.{digit_value_digit}
use Rattle.std.proofs.lemmas.Bool.Decides.{nat_tests}
use Rattle.std.specs.Char.{is_ascii_digit}
use Rattle.std.specs.Str.{all_ascii_digits}
use Rattle.std.proofs.lemmas.Bool.{and_parts, and_from, and_left, and_right, cases_Bool}
use Rattle.text_lines.specs.Numbers.{is_digits, is_integer, integer_value, is_between, saturated, integer_in}
use Rattle.text_lines.specs.declared.number.NumberFault.TheVariants.{OutOfRange}
use Rattle.std.proofs.lemmas.Option.{same_Some}

-- a byte that is no digit
pub no_digits_from_byte : (ds : List ℕ) (i : ℕ) → i < length ds → is_ascii_digit (get_or ds i 0) ≡ false → all_ascii_digits ds ≡ false
no_digits_from_byte [] i inside other = absurd (omega arith)
no_digits_from_byte (d ∷ ds) zero inside other = rw other refl
no_digits_from_byte (d ∷ ds) (suc i) inside other = and_right (is_ascii_digit d) (all_ascii_digits ds) (no_digits_from_byte ds i (omega arith) other)

-- digits so far, and one more
pub digits_more : (ds : List ℕ) (i : ℕ) → i < length ds → all_ascii_digits (take i ds) ≡ true → is_ascii_digit (get_or ds i 0) ≡ true → all_ascii_digits (take (suc i) ds) ≡ true
digits_more [] i inside so_far digit = absurd (omega arith)
digits_more (d ∷ ds) zero inside so_far digit = rw digit refl
digits_more (d ∷ ds) (suc i) inside so_far digit =
    let parts = and_parts (is_ascii_digit d) (all_ascii_digits (take i ds)) so_far in
    rw parts.0 (digits_more ds i (omega arith) parts.1 digit)

pub is_digits_is : (ds : List ℕ) → 0 < length ds → is_digits ds ≡ all_ascii_digits ds
is_digits_is [] some = absurd (omega arith)
is_digits_is (d ∷ ds) some = refl

-- the value of a digit
pub digit_value_is : (byte : ℕ) → is_ascii_digit byte ≡ true → digit_value byte ≡ byte - 48
digit_value_is byte digit =
    let low : 48 ≤ byte = grind (arith, nat_tests) in
    let high : byte ≤ 57 = grind (arith, nat_tests) in
    let value = digit_value_digit byte (low, high) in
    omega arith

-- one more digit, in numbers that stop at the most
pub saturates : (value digit most number tens next : ℕ) → number ≡ min value most → tens ≡ min (number * 10) most → next ≡ min (tens + digit) most → next ≡ min (value * 10 + digit) most
saturates value digit most number tens next a b c = omega arith

pub saturated-neg : (n : ℕ) → neg_ℤ (pos (min n (2 ^ 64 - 1))) ≡ saturated (neg_ℤ (pos n))
saturated-neg zero = refl
saturated-neg (suc n) =
    let one : min (suc n) (2 ^ 64 - 1) ≡ suc (min n (2 ^ 64 - 2)) = omega arith in
    ap (λ m. neg_ℤ (pos m)) one

int_le-from : (a b : ℤ) → a ≤ℤ b → int_le a b ≡ true
int_le-from a b below = is_so (int_le a b) below.le where
  is_so : (test : Bool) → T test → test ≡ true
  is_so true h = refl
  is_so false h = absurd h

int_le-not : (a b : ℤ) → b <ℤ a → int_le a b ≡ false
int_le-not a b above =
    ⊎_elim
    (λ (passes : int_le a b ≡ true). let below : a ≤ℤ b = le_z_yes (is_T (int_le a b) passes) in absurd (omega (arith, ints)))
    (λ fails. fails)
    (cases_Bool (int_le a b)) where
      is_T : (test : Bool) → test ≡ true → T test
      is_T true e = tt
      is_T false e = cc

pub saturated_inside : (least most v : ℤ) → FitsSigned w64 least → FitsSigned w64 most → least ≤ℤ saturated v → saturated v ≤ℤ most → saturated v ≡ v
saturated_inside least most (pos n) from upto low high =
    let small : min n (2 ^ 64 - 1) ≡ n = omega (arith, ints) in
    ap pos small
saturated_inside least most (negsuc n) from upto low high =
    let small : min n (2 ^ 64 - 2) ≡ n = omega (arith, ints) in
    ap negsuc small

pub between_inside : (least most v : ℤ) → least ≤ℤ v → v ≤ℤ most → is_between least most v ≡ true
between_inside least most v low high = and_from (int_le least v) (int_le v most) (int_le-from least v low) (int_le-from v most high)

pub not_between_below : (least most v : ℤ) → FitsSigned w64 least → saturated v <ℤ least → is_between least most v ≡ false
not_between_below least most (pos n) from below =
    let lower : pos n <ℤ least = omega (arith, ints) in
    and_left (int_le least (pos n)) (int_le (pos n) most) (int_le-not least (pos n) lower)
not_between_below least most (negsuc n) from below =
    let lower : negsuc n <ℤ least = omega (arith, ints) in
    and_left (int_le least (negsuc n)) (int_le (negsuc n) most) (int_le-not least (negsuc n) lower)

pub not_between_above : (least most v : ℤ) → FitsSigned w64 most → most <ℤ saturated v → is_between least most v ≡ false
not_between_above least most (pos n) upto above =
    let higher : most <ℤ pos n = omega (arith, ints) in
    and_right (int_le least (pos n)) (int_le (pos n) most) (int_le-not (pos n) most higher)
not_between_above least most (negsuc n) upto above =
    let higher : most <ℤ negsuc n = omega (arith, ints) in
    and_right (int_le least (negsuc n)) (int_le (negsuc n) most) (int_le-not (negsuc n) most higher)

-- a number that was found is that of the field
pub integer_found : (field : List ℕ) (number : ℤ) → (if is_integer field then Some (saturated (integer_value field)) else None) ≡ Some number → (is_integer field ≡ true) × (saturated (integer_value field) ≡ number)
integer_found field number found =
    ⊎_elim
    (λ (yes : is_integer field ≡ true). (yes, same_Some _ _ (rw yes at found)))
    (λ (no : is_integer field ≡ false). let none : None ≡ Some number = rw no at found in cc)
    (cases_Bool (is_integer field))

saturated_fits : (v : ℤ) → FitsSigned w128 (saturated v)
saturated_fits (pos n) = record { sfits = let small : min n (2 ^ 64 - 1) < 2 ^ 127 = omega arith in small }
saturated_fits (negsuc n) = record { sfits = let small : min n (2 ^ 64 - 2) < 2 ^ 127 = omega arith in small }

pub integer_fits : (field : List ℕ) (number : ℤ) → (if is_integer field then Some (saturated (integer_value field)) else None) ≡ Some number → FitsSigned w128 number
integer_fits field number found = subst (λ n. FitsSigned w128 n) (integer_found field number found).1 (saturated_fits (integer_value field))

pub integer_in-ok : (least most : ℤ) (field : List ℕ) (number : ℤ) → FitsSigned w64 least → FitsSigned w64 most → (if is_integer field then Some (saturated (integer_value field)) else None) ≡ Some number → least ≤ℤ number → number ≤ℤ most → Ok number ≡ integer_in least most field
integer_in-ok least most field number from upto found low high =
    let is = integer_found field number found in
    let same : number ≡ integer_value field = sym is.1 ∙ saturated_inside least most (integer_value field) from upto (subst (λ n. least ≤ℤ n) (sym is.1) low) (subst (λ n. n ≤ℤ most) (sym is.1) high) in
    let between : is_between least most (integer_value field) ≡ true = between_inside least most (integer_value field) (subst (λ n. least ≤ℤ n) same low) (subst (λ n. n ≤ℤ most) same high) in
    rw (is.0, between) (ap Ok same)

pub integer_in-outside : (least most : ℤ) (field : List ℕ) (number : ℤ) → FitsSigned w64 least → FitsSigned w64 most → (if is_integer field then Some (saturated (integer_value field)) else None) ≡ Some number → (number <ℤ least) ⊎ (most <ℤ number) → Err OutOfRange ≡ integer_in least most field
integer_in-outside least most field number from upto found out =
    let is = integer_found field number found in
    let outside : is_between least most (integer_value field) ≡ false =
    ⊎_elim
    (λ below. not_between_below least most (integer_value field) from (subst (λ n. n <ℤ least) (sym is.1) below))
    (λ above. not_between_above least most (integer_value field) upto (subst (λ n. most <ℤ n) (sym is.1) above)) out in
    rw (is.0, outside) refl
