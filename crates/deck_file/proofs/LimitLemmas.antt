-- The limits of values.
use Rattle.std.proofs.Common.{◌≡◌, ◌∙◌, ℕ, ◌*◌, ◌≤◌, Bool, true, false, ◌&&◌, cond, nat_le, refl, ap, subst, List, length, Option, Some, None, Result, Ok, Err, unwrap_or, arith}
use Rattle.std.specs.Prelude.{option_and_then}
use Rattle.std.specs.Result.{result_ok}
use Rattle.std.specs.Str.Parse.{digits_value}
use Rattle.std.proofs.lemmas.Bool.Decides.{nat_tests}
use Rattle.pf_model.specs.Criterion.{IsAngle}
use Rattle.pf_model.specs.Division.{Division, IsDivision}
use Rattle.pf_model.specs.declared.limits.TheConstants.{MOST_RANKS}
use Rattle.text_lines.specs.declared.number.NumberFault.{NumberFault}
use Rattle.text_lines.specs.declared.number.NumberFault.TheVariants.{NoNumber, OutOfRange}
use Rattle.text_lines.specs.Numbers.{digits_in, is_digits}
use Rattle.deck_file.specs.Values.{angle_of, angle_with, cut_at, division_of, division_with, number_within, slabs}

le_from : (a b : ℕ) → nat_le a b ≡ true → a ≤ b
le_from a b h = grind (arith, nat_tests)

digits_in-within : (least most : ℕ) (value : List ℕ) (n : ℕ) → digits_in least most value ≡ Ok n → (least ≤ n) × (n ≤ most)
digits_in-within least most value n = go (is_digits value) (nat_le least (digits_value 10 value)) (nat_le (digits_value 10 value) most) refl refl
  where
    go : (digits low high : Bool) → nat_le least (digits_value 10 value) ≡ low → nat_le (digits_value 10 value) most ≡ high
        → ◌≡◌ {A = Result ℕ NumberFault} (cond digits (cond (low && high) (Ok (digits_value 10 value)) (Err OutOfRange)) (Err NoNumber)) (Ok n)
        → (least ≤ n) × (n ≤ most)
    go true true true l h e =
        let same : digits_value 10 value ≡ n = cc e in
        (subst (λ v. least ≤ v) same (le_from least _ l), subst (λ v. v ≤ most) same (le_from _ most h))
    go true true false l h e = cc
    go true false high l h e = cc
    go false low high l h e = cc

pub number_of-within : (least most : ℕ) (value : List ℕ) (n : ℕ) → number_within least most value ≡ Some n → (least ≤ n) × (n ≤ most)
number_of-within least most value n = go (nat_le (length value) 10) (digits_in least most value) refl
  where
    go : (short : Bool) (read : Result ℕ NumberFault) → digits_in least most value ≡ read → cond short (result_ok read) None ≡ Some n
        → (least ≤ n) × (n ≤ most)
    go true (Ok m) is e = digits_in-within least most value n (is ∙ (let same : m ≡ n = cc e in ap Ok same))
    go true (Err fault) is e = cc
    go false read is e = cc

-- a number as it is set, or the default
pub set_within : (least most default : ℕ) (value : Option (List ℕ)) → least ≤ default → default ≤ most
    → (least ≤ unwrap_or (option_and_then (number_within least most) value) default) × (unwrap_or (option_and_then (number_within least most) value) default ≤ most)
set_within least most default None low high = (low, high)
set_within least most default (Some value) low high = go (number_within least most value) refl
  where
    go : (n : Option ℕ) → number_within least most value ≡ n → (least ≤ unwrap_or n default) × (unwrap_or n default ≤ most)
    go None e = (low, high)
    go (Some n) e = number_of-within least most value n e

-- ---- angles

angle_with-within : (x y : List ℕ) (a b : Option ℕ) (angle : ℕ × ℕ) → number_within 0 1024 x ≡ a → number_within 1 1024 y ≡ b
    → angle_with a b ≡ Some angle → IsAngle angle.0 angle.1
angle_with-within x y None b angle p q e = cc
angle_with-within x y (Some a) None angle p q e = cc
angle_with-within x y (Some a) (Some b) angle p q e =
    let same : (a, b) ≡ angle = cc e in
    let above = number_of-within 0 1024 x a p in
    let below = number_of-within 1 1024 y b q in
    subst (λ (n : ℕ × ℕ). IsAngle n.0 n.1) same (record { numerator_fits = above.1; denominator_positive = below.0; denominator_fits = below.1 })

pub angle_of-within : (value : List ℕ) (angle : ℕ × ℕ) → angle_of value ≡ Some angle → IsAngle angle.0 angle.1
angle_of-within value angle = go (cut_at 47 value)
  where
    go : (parts : Option (List ℕ × List ℕ)) → option_and_then (λ p. angle_with (number_within 0 1024 p.0) (number_within 1 1024 p.1)) parts ≡ Some angle
        → IsAngle angle.0 angle.1
    go None e = cc
    go (Some parts) e = angle_with-within parts.0 parts.1 _ _ angle refl refl e

-- ---- grids

division_with-within : (x y z : List ℕ) (a b c : Option ℕ) (grid : Division) → slabs x ≡ a → slabs y ≡ b → slabs z ≡ c
    → division_with a b c ≡ Some grid → IsDivision grid
division_with-within x y z None b c grid p q r = λ e. cc
division_with-within x y z (Some a) None c grid p q r = λ e. cc
division_with-within x y z (Some a) (Some b) None grid p q r = λ e. cc
division_with-within x y z (Some a) (Some b) (Some c) grid p q r = go (nat_le (a * b * c) MOST_RANKS) refl
  where
    go : (few : Bool) → nat_le (a * b * c) MOST_RANKS ≡ few
        → cond few (Some (let made : Division = record { nx = a; ny = b; nz = c } in made)) None ≡ Some grid → IsDivision grid
    go true few e =
        let made : Division = record { nx = a; ny = b; nz = c } in
        let same : made ≡ grid = cc e in
        subst IsDivision same (record {
          some_x = (number_of-within 1 MOST_RANKS x a p).0;
          some_y = (number_of-within 1 MOST_RANKS y b q).0;
          some_z = (number_of-within 1 MOST_RANKS z c r).0;
          few = le_from _ _ few;
        })
    go false few e = cc

division_cut : (x rest : List ℕ) (grid : Division)
    → option_and_then (λ second. division_with (slabs x) (slabs second.0) (slabs second.1)) (cut_at 120 rest) ≡ Some grid → IsDivision grid
division_cut x rest grid = go (cut_at 120 rest)
  where
    go : (parts : Option (List ℕ × List ℕ)) → option_and_then (λ second. division_with (slabs x) (slabs second.0) (slabs second.1)) parts ≡ Some grid
        → IsDivision grid
    go None e = cc
    go (Some parts) e = division_with-within x parts.0 parts.1 _ _ _ grid refl refl refl e

pub division_of-within : (value : List ℕ) (grid : Division) → division_of value ≡ Some grid → IsDivision grid
division_of-within value grid = go (cut_at 120 value)
  where
    go : (parts : Option (List ℕ × List ℕ))
        → option_and_then (λ first. option_and_then (λ second. division_with (slabs first.0) (slabs second.0) (slabs second.1)) (cut_at 120 first.1)) parts ≡ Some grid
        → IsDivision grid
    go None e = cc
    go (Some parts) e = division_cut parts.0 parts.1 grid e
