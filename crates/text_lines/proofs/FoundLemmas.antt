-- What a number that is read says of its field.
use Rattle.std.proofs.Common.{◌≡◌, ℕ, ◌≤◌, ◌↔◌, Bool, true, false, ◌&&◌, Result, Ok, sym, subst, T, List, ap, ⊎_elim, ℤ, ◌≤ℤ◌}
use Rattle.std.specs.Prelude.{int_le, nat_le}
use Rattle.std.specs.Int.Signed.{le_z_yes}
use Rattle.std.specs.Str.Parse.{digits_value}
use Rattle.std.proofs.lemmas.Bool.{and_parts, cases_Bool, leb-true, le-leb}
use Rattle.text_lines.specs.Numbers.{is_digits, is_integer, integer_value, is_between, digits_in, integer_in}
use Rattle.text_lines.specs.Laws.{WritesDigits, WritesInteger}
use Rattle.text_lines.proofs.NumberLemmas.{between_inside}

same_Ok : {A E : Type 0} (x y : A) → ◌≡◌ {A = Result A E} (Ok x) (Ok y) → x ≡ y
same_Ok x y e = cc

int_le-true : (a b : ℤ) → int_le a b ≡ true → a ≤ℤ b
int_le-true a b passes = le_z_yes (is_T (int_le a b) passes) where
  is_T : (test : Bool) → test ≡ true → T test
  is_T true e = tt
  is_T false e = cc

pub integers_are_found : (least most : ℤ) (field : List ℕ) (n : ℤ) → (integer_in least most field ≡ Ok n) ↔ WritesInteger least most field n
integers_are_found least most field n = (
  λ read. ⊎_elim
      (λ (yes : is_integer field ≡ true). ⊎_elim
      (λ (inside : is_between least most (integer_value field) ≡ true).
      let same : integer_value field ≡ n = same_Ok _ _ (rw (yes, inside) at read) in
      let parts = and_parts (int_le least (integer_value field)) (int_le (integer_value field) most) inside in
      record { digits = yes; value = same; low = subst (λ m. least ≤ℤ m) same (int_le-true _ _ parts.0); high = subst (λ m. m ≤ℤ most) same (int_le-true _ _ parts.1) })
      (λ (outside : is_between least most (integer_value field) ≡ false). let e = rw (yes, outside) at read in cc)
      (cases_Bool (is_between least most (integer_value field))))
      (λ (no : is_integer field ≡ false). let e = rw no at read in cc)
      (cases_Bool (is_integer field)),
  λ is.
      let inside : is_between least most (integer_value field) ≡ true = between_inside least most (integer_value field) (subst (λ m. least ≤ℤ m) (sym is.value) is.low) (subst (λ m. m ≤ℤ most) (sym is.value) is.high) in
      rw (is.digits, inside) (ap Ok is.value),
)

pub digits_are_found : (least most : ℕ) (field : List ℕ) (n : ℕ) → (digits_in least most field ≡ Ok n) ↔ WritesDigits least most field n
digits_are_found least most field n = (
  λ read. ⊎_elim
      (λ (yes : is_digits field ≡ true). ⊎_elim
      (λ (inside : nat_le least (digits_value 10 field) && nat_le (digits_value 10 field) most ≡ true).
      let same : digits_value 10 field ≡ n = same_Ok _ _ (rw (yes, inside) at read) in
      let parts = and_parts (nat_le least (digits_value 10 field)) (nat_le (digits_value 10 field) most) inside in
      record { digits = yes; value = same; low = subst (λ m. least ≤ m) same (leb-true _ _ parts.0); high = subst (λ m. m ≤ most) same (leb-true _ _ parts.1) })
      (λ (outside : nat_le least (digits_value 10 field) && nat_le (digits_value 10 field) most ≡ false). let e = rw (yes, outside) at read in cc)
      (cases_Bool (nat_le least (digits_value 10 field) && nat_le (digits_value 10 field) most)))
      (λ (no : is_digits field ≡ false). let e = rw no at read in cc)
      (cases_Bool (is_digits field)),
  λ is.
      let low : nat_le least (digits_value 10 field) ≡ true = le-leb _ _ (subst (λ m. least ≤ m) (sym is.value) is.low) in
      let high : nat_le (digits_value 10 field) most ≡ true = le-leb _ _ (subst (λ m. m ≤ most) (sym is.value) is.high) in
      rw (is.digits, low, high) (ap Ok is.value),
)
