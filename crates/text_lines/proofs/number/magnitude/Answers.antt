use Rattle.std.proofs.Common.{◌≡◌, ◌+◌, ◌-◌, ◌^◌, min, ap, false, get_or, sym, ◌∙◌, refl, add-one, arith}
use Rattle.std.proofs.lemmas.Int.Digits.{digits_value_more}
use Rattle.std.specs.Char.{digit_value}
use Rattle.text_lines.specs.Numbers.{is_digits}
use Rattle.text_lines.proofs.NumberLemmas.{no_digits_from_byte, digits_more, is_digits_is, digit_value_is, saturates}
use Rattle.text_lines.proofs.number.magnitude.Goals as goal

pub returns-then-not-is_ascii_digit : goal.returns-then-not-is_ascii_digit
returns-then-not-is_ascii_digit c =
    let none : is_digits c.args.digits.now ≡ false = is_digits_is c.args.digits.now (omega arith) ∙ no_digits_from_byte c.args.digits.now c.loop-byte.byte-index (omega arith) (sym c.is_ascii_digit.ensures.value ∙ c.if-not-is_ascii_digit.true) in
    rw none refl

pub loop-byte-preserved : goal.loop-byte-preserved
loop-byte-preserved c =
    let digit = digit_value_is (get_or c.args.digits.now c.loop-byte.byte-index 0) (sym c.is_ascii_digit.ensures.value ∙ c.if-not-is_ascii_digit.false) in
    let value = digits_value_more 10 c.args.digits.now c.loop-byte.byte-index (omega arith) in
    let next : c.saturating_add-number.result ≡ min (c.saturating_mul.result + digit_value (get_or c.args.digits.now c.loop-byte.byte-index 0)) (2 ^ 64 - 1) = omega arith in
    record {
      digits_so_far = rw add-one (digits_more c.args.digits.now c.loop-byte.byte-index (omega arith) c.loop-byte.invariant.digits_so_far (sym c.is_ascii_digit.ensures.value ∙ c.if-not-is_ascii_digit.false));
      value = saturates _ _ _ _ _ _ c.loop-byte.invariant.value c.saturating_mul.ensures next ∙ ap (λ n. min n (2 ^ 64 - 1)) (sym value);
    }
