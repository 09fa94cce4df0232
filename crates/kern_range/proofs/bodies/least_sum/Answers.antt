use Rattle.std.proofs.Common.{◌∙◌, ap, Ok, w64, length, pos, ℤ, ◌≤ℤ◌, arith}
use Rattle.std.proofs.lemmas.Int.{ints, to_z-of_z}
use Rattle.kern_range.proofs.SumLemmas.{least_kept}
use Rattle.kern_range.proofs.bodies.least_sum.Goals as goal

pub returns-then-least-ge0 : goal.returns-then-least-ge0
returns-then-least-ge0 c =
    let same = to_z-of_z w64 c.args.least c.ranges.least in
    let test = c.if-least-ge0.true in
    ap (λ (x : ℤ). Ok x) same ∙ least_kept (length c.args.others.now) c.args.least c.ranges.least (omega (arith, ints))
