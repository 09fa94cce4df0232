use Rattle.std.proofs.Common.{◌+◌, arith}
use Rattle.std.proofs.lemmas.Int.Digits.{digits_value_more}
use Rattle.kern_token.proofs.Digits.{digit_at, digits_value-take-le}
use Rattle.kern_token.proofs.number.number_of.Goals as goal

pub overflow_sub-byte : goal.overflow_sub-byte
overflow_sub-byte c =
    let digit = digit_at c.args.digits.now c.loop-byte.byte-index (omega arith) c.requires in
    omega arith

pub returns-then-number-digit : goal.returns-then-number-digit
returns-then-number-digit c =
    let digit = digit_at c.args.digits.now c.loop-byte.byte-index (omega arith) c.requires in
    let value = digits_value_more 10 c.args.digits.now c.loop-byte.byte-index (omega arith) in
    omega (arith, digits_value-take-le (c.loop-byte.byte-index + 1) c.args.digits.now)

pub loop-byte-preserved : goal.loop-byte-preserved
loop-byte-preserved c =
    let digit = digit_at c.args.digits.now c.loop-byte.byte-index (omega arith) c.requires in
    let value = digits_value_more 10 c.args.digits.now c.loop-byte.byte-index (omega arith) in
    record { value = omega arith; small = omega arith }
