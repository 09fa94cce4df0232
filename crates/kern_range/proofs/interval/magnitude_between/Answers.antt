use Rattle.std.proofs.Common.{sym, ap, ◌∙◌, w64, pos, neg_ℤ, ◌<ℤ◌, arith}
use Rattle.std.proofs.lemmas.Int.{ints, to_z-of_z}
use Rattle.pf_num.specs.Exact.{exact}
use Rattle.kern_range.proofs.IntervalLemmas.{straddling, straddling_bad}
use Rattle.kern_range.proofs.interval.magnitude_between.Goals as goal

pub returns-in-Ok : goal.returns-in-Ok
returns-in-Ok c =
    let l = to_z-of_z w64 c.args.least c.ranges.least in
    let g = to_z-of_z w64 c.args.greatest c.ranges.greatest in
    let first = c.if-least-ge0.false in
    let second = c.if-greatest-le0.false in
    let low : c.args.least <ℤ pos 0 = omega (arith, ints) in
    let high : pos 0 <ℤ c.args.greatest = omega (arith, ints) in
    straddling (record { least = c.args.least; greatest = c.args.greatest }) c.in-Ok.size c.max.result low high c.ranges.greatest
    (sym c.in-Ok.is ∙ c.checked_neg-2.ensures ∙ ap (λ x. exact (neg_ℤ x)) l) c.max.ensures.value (record { sfits = c.max.type_inv })

pub returns-in-Err : goal.returns-in-Err
returns-in-Err c =
    let l = to_z-of_z w64 c.args.least c.ranges.least in
    let g = to_z-of_z w64 c.args.greatest c.ranges.greatest in
    let first = c.if-least-ge0.false in
    let second = c.if-greatest-le0.false in
    let low : c.args.least <ℤ pos 0 = omega (arith, ints) in
    let high : pos 0 <ℤ c.args.greatest = omega (arith, ints) in
    straddling_bad (record { least = c.args.least; greatest = c.args.greatest }) c.in-Err.field-0 low high
    (sym c.in-Err.is ∙ c.checked_neg-2.ensures ∙ ap (λ x. exact (neg_ℤ x)) l)
