-- What was written is read again, and what a number that is read says of its field.
use Rattle.std.specs.Prelude.{◌≡◌, ℕ, ◌<◌, ◌≤◌, ◌^◌, ◌↔◌, true, ℤ, ◌≤ℤ◌, unsigned_abs, List, Ok}
use Rattle.std.specs.Fmt.{decimal, signed_decimal}
use Rattle.std.specs.List.{AllByRecursion}
use Rattle.std.specs.Str.Parse.{digits_value}
use Rattle.text_lines.specs.Lines.{field_lines}
use Rattle.text_lines.specs.Numbers.{is_digits, is_integer, integer_value, digits_in, integer_in}
use Rattle.text_lines.specs.Written.{IsField, IsWritable, written, numbered_from}

abbrev pub WrittenLinesReadBack : Type 0
WrittenLinesReadBack = (lines : List (List (List ℕ))) → AllByRecursion IsWritable lines
    → field_lines (written lines) ≡ numbered_from 1 lines

-- the digits of a number
abbrev pub DigitsReadBack : Type 0
DigitsReadBack = (n : ℕ) → n < 2 ^ 64
    → IsField (decimal n) × (is_digits (decimal n) ≡ true) × (digits_value 10 (decimal n) ≡ n)

-- the digits of a number, after a minus where it is below 0
abbrev pub IntegersReadBack : Type 0
IntegersReadBack = (n : ℤ) → unsigned_abs n < 2 ^ 64
    → IsField (signed_decimal n) × (is_integer (signed_decimal n) ≡ true) × (integer_value (signed_decimal n) ≡ n)

-- the field writes this number in digits, and it is within these limits
pub record WritesDigits (least most : ℕ) (field : List ℕ) (n : ℕ) : Type 0 where
  pub digits : is_digits field ≡ true
  pub value : digits_value 10 field ≡ n
  pub low : least ≤ n
  pub high : n ≤ most

-- the field writes this integer, and it is within these limits
pub record WritesInteger (least most : ℤ) (field : List ℕ) (n : ℤ) : Type 0 where
  pub digits : is_integer field ≡ true
  pub value : integer_value field ≡ n
  pub low : least ≤ℤ n
  pub high : n ≤ℤ most

abbrev pub DigitsAreFound : Type 0
DigitsAreFound = (least most : ℕ) (field : List ℕ) (n : ℕ)
    → (digits_in least most field ≡ Ok n) ↔ WritesDigits least most field n

abbrev pub IntegersAreFound : Type 0
IntegersAreFound = (least most : ℤ) (field : List ℕ) (n : ℤ)
    → (integer_in least most field ≡ Ok n) ↔ WritesInteger least most field n
