use Rattle.std.proofs.Common.{◌≡◌, ◌≤ℤ◌, ◌<ℤ◌, w64, Ok, of_z, to_z, sym, ap, ◌∙◌, inl, inr, arith}
use Rattle.std.specs.Int.{w128}
use Rattle.std.proofs.lemmas.Int.{ints}
use Rattle.text_lines.proofs.NumberLemmas.{integer_fits, integer_in-ok, integer_in-outside}
use Rattle.text_lines.proofs.number.integer_in.Goals as goal
use Rattle.text_lines.proofs.number.integer_in.Goals.{else-from-number-via-then-from-number+else-number-from, else-from-number-via-else-from-number}

pub returns-then-number-from : goal.returns-then-number-from
returns-then-number-from c =
    let found = sym c.integer.ensures ∙ c.in_ok-number.ensures.ok_part in
    let wide = integer_fits c.args.field.now c.in_ok-number.number found in
    let low : c.args.least ≤ℤ c.in_ok-number.number = omega (arith, ints) in
    let high : c.in_ok-number.number ≤ℤ c.args.most = omega (arith, ints) in
    let same : to_z w64 (of_z w64 (to_z w128 (of_z w128 c.in_ok-number.number))) ≡ c.in_ok-number.number = omega (arith, ints) in
    ap Ok same ∙ integer_in-ok c.args.least c.args.most c.args.field.now c.in_ok-number.number c.ranges.least c.ranges.most found low high

pub returns-else-from-number : goal.returns-else-from-number
returns-else-from-number c =
    let found = sym c.integer.ensures ∙ c.in_ok-number.ensures.ok_part in
    let wide = integer_fits c.args.field.now c.in_ok-number.number found in
    integer_in-outside c.args.least c.args.most c.args.field.now c.in_ok-number.number c.ranges.least c.ranges.most found
    (elim c.else-from-number.branch [
      | else-from-number-via-then-from-number+else-number-from w ↦ inr (let above : c.args.most <ℤ c.in_ok-number.number = omega (arith, ints) in above)
      | else-from-number-via-else-from-number w ↦ inl (let below : c.in_ok-number.number <ℤ c.args.least = omega (arith, ints) in below)
    ])
