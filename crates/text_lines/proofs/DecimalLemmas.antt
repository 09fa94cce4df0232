-- Numbers that are written in decimals.
use Rattle.std.proofs.Common.{◌≡◌, ℕ, suc, ◌<◌, ◌≤◌, ◌^◌, true, List, [], ◌∷◌, refl, ap, ◌∙◌, ℤ, pos, negsuc, neg_ℤ, arith}
use Rattle.std.specs.Prelude.{unsigned_abs}
use Rattle.std.specs.Fmt.{decimal, signed_decimal}
use Rattle.std.specs.List.{AllByRecursion}
use Rattle.std.specs.Str.{all_ascii_digits}
use Rattle.std.specs.Str.Parse.{AllDigits, digits_value}
use Rattle.std.proofs.lemmas.Bool.{ne_eqb}
use Rattle.std.proofs.lemmas.Fmt.{decimal_is_IsNumeral}
use Rattle.std.proofs.lemmas.Str.Parse.{digit_from_value, numerals_by_value, tells_all_ascii_digits}
use Rattle.text_lines.specs.Numbers.{is_digits, is_integer, integer_value}
use Rattle.text_lines.specs.Written.{IsFieldByte, IsField}
use Rattle.text_lines.proofs.NumberLemmas.{is_digits_is}

-- a byte from `-` on up to `9`
field_byte : (b : ℕ) → 45 ≤ b → IsFieldByte b
field_byte b high = record {
  no_line_feed = λ e. omega arith;
  no_return = λ e. omega arith;
  no_space = λ e. omega arith;
  no_tab = λ e. omega arith;
}

digit_bytes : (ds : List ℕ) → AllDigits 10 ds → AllByRecursion IsFieldByte ds
digit_bytes [] digits = tt
digit_bytes (d ∷ ds) digits = let range = digit_from_value d digits.0 in (field_byte d (omega arith), digit_bytes ds digits.1)

ascii_digits : (ds : List ℕ) → AllDigits 10 ds → all_ascii_digits ds ≡ true
ascii_digits ds digits = (numerals_by_value (λ bs. all_ascii_digits bs ≡ true) tells_all_ascii_digits).from ds digits

pub digits_back : (n : ℕ) → n < 2 ^ 64 → IsField (decimal n) × (is_digits (decimal n) ≡ true) × (digits_value 10 (decimal n) ≡ n)
digits_back n fits =
    let numeral = decimal_is_IsNumeral n fits in (
      record { nonempty = numeral.0.0; bytes = digit_bytes (decimal n) numeral.0.1 },
      is_digits_is (decimal n) numeral.0.0 ∙ ascii_digits (decimal n) numeral.0.1,
      numeral.1,
    )

-- digits are read as an integer, since the first is no minus
plain_integer : (ds : List ℕ) → AllDigits 10 ds → is_digits ds ≡ true → (is_integer ds ≡ true) × (integer_value ds ≡ pos (digits_value 10 ds))
plain_integer [] digits some = cc
plain_integer (d ∷ ds) digits some =
    let range = digit_from_value d digits.0 in
    let plain = ne_eqb d 45 (λ e. omega arith) in
    ((rw plain some), (rw plain refl))

pub integers_back : (n : ℤ) → unsigned_abs n < 2 ^ 64 → IsField (signed_decimal n) × (is_integer (signed_decimal n) ≡ true) × (integer_value (signed_decimal n) ≡ n)
integers_back (pos n) fits =
    let back = digits_back n fits in
    let plain = plain_integer (decimal n) (decimal_is_IsNumeral n fits).0.1 back.1 in
    (back.0, plain.0, plain.1 ∙ ap pos back.2)
integers_back (negsuc n) fits =
    let back = digits_back (suc n) fits in (
      record { nonempty = omega arith; bytes = (field_byte 45 (omega arith), back.0.bytes) },
      back.1,
      ap (λ m. neg_ℤ (pos m)) back.2,
    )
