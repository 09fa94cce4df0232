-- The number that a field writes.
use Rattle.std.specs.Prelude.{ℕ, Bool, false, ◌&&◌, ◌==◌, nat_le, min, ◌-◌, ◌^◌, if◌then◌else◌, ℤ, pos, negsuc, neg_ℤ, int_le, List, [], ◌∷◌, Result, Ok, Err}
use Rattle.std.specs.Char.{is_ascii_digit}
use Rattle.std.specs.Str.{all_ascii_digits}
use Rattle.std.specs.Str.Parse.{digits_value}
use Rattle.text_lines.specs.declared.number.NumberFault.{NumberFault}
use Rattle.text_lines.specs.declared.number.NumberFault.TheVariants.{NoNumber, OutOfRange}

-- one digit or more, and nothing else
abbrev pub is_digits : List ℕ → Bool
is_digits [] = false
is_digits (byte ∷ bytes) = is_ascii_digit byte && all_ascii_digits bytes

-- digits, which one minus may precede
abbrev pub is_integer : List ℕ → Bool
is_integer [] = false
is_integer (byte ∷ bytes) = if byte == 45 then is_digits bytes else is_digits (byte ∷ bytes)

abbrev pub integer_value : List ℕ → ℤ
integer_value [] = pos 0
integer_value (byte ∷ bytes) =
    if byte == 45 then neg_ℤ (pos (digits_value 10 bytes)) else pos (digits_value 10 (byte ∷ bytes))

abbrev pub is_between : ℤ → ℤ → ℤ → Bool
is_between least most n = int_le least n && int_le n most

-- the number that the field writes within these limits, or why it writes none
abbrev pub digits_in : ℕ → ℕ → List ℕ → Result ℕ NumberFault
digits_in least most field =
    if is_digits field
    then (
    if nat_le least (digits_value 10 field) && nat_le (digits_value 10 field) most
    then Ok (digits_value 10 field)
    else Err OutOfRange)
    else Err NoNumber

abbrev pub integer_in : ℤ → ℤ → List ℕ → Result ℤ NumberFault
integer_in least most field =
    if is_integer field
    then (if is_between least most (integer_value field) then Ok (integer_value field) else Err OutOfRange)
    else Err NoNumber

-- the integer, or one past 64 bits on the same side where it is past them
abbrev pub saturated : ℤ → ℤ
saturated (pos n) = pos (min n (2 ^ 64 - 1))
saturated (negsuc n) = negsuc (min n (2 ^ 64 - 2))
