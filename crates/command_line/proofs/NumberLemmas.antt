-- How a word of digits is parsed.
use Rattle.std.proofs.Common.{rules, ◌≡◌, ℕ, ◌^◌, Bool, true, false, cond, ◌&&◌, List, length, Some, None, Result, Ok, Err, refl, ap, nat_lt, lt-ltb, ltb-true}
use Rattle.std.specs.Char.{is_ascii_digit}
use Rattle.std.specs.List.{list_all}
use Rattle.std.specs.Result.{result_ok}
use Rattle.std.specs.Str.Parse.{ParsesUnsigned, digits_value}
use Rattle.std.proofs.lemmas.Str.Parse.{IsDigitsTest, IsNumeralModel, numerals_by_value, parse_digits}
use Rattle.command_line.specs.Number.{numeral_value}

tells_digits : IsDigitsTest (λ ds. list_all is_ascii_digit ds ≡ true)
tells_digits = search rules

own : IsNumeralModel (λ ds. list_all is_ascii_digit ds ≡ true) (digits_value 10)
own = numerals_by_value _ tells_digits

none_where : (a b : Bool) (n : ℕ) → (a ≡ true → b ≡ true → ⊥) → None ≡ cond (a && b) (Some n) None
none_where true true n h = absurd (h refl refl)
none_where true false n h = refl
none_where false b n h = refl

-- a word of digits is parsed as the number that it spells
pub parsed_digits : {E : Type 0} (word : List ℕ) (parsed : Result ℕ E) → ParsesUnsigned 64 10 word parsed → list_all is_ascii_digit word ≡ true
    → result_ok parsed ≡ numeral_value word
parsed_digits {E} word (Ok n) h digits =
    let says = parse_digits own {E = E} 64 word (Ok n) h digits in
    rw (digits, lt-ltb 0 (length word) says.0.0, lt-ltb (digits_value 10 word) (2 ^ 64) says.0.1) (ap Some says.1)
parsed_digits {E} word (Err e) h digits =
    let says = parse_digits own {E = E} 64 word (Err e) h digits in
    rw digits (none_where (nat_lt 0 (length word)) (nat_lt (digits_value 10 word) (2 ^ 64)) (digits_value 10 word) (λ some small.
    says (ltb-true 0 (length word) some, ltb-true (digits_value 10 word) (2 ^ 64) small)))

-- a word with another byte is no number
pub other_words : (word : List ℕ) → list_all is_ascii_digit word ≡ false → None ≡ numeral_value word
other_words word h = rw h refl
