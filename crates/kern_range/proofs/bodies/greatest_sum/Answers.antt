use Rattle.std.proofs.Common.{◌∙◌, ap, Ok, w64, length, pos, ℤ, ◌≤ℤ◌, arith}
use Rattle.std.proofs.lemmas.Int.{ints, to_z-of_z}
use Rattle.kern_range.proofs.SumLemmas.{greatest_kept}
use Rattle.kern_range.proofs.bodies.greatest_sum.Goals as goal

pub returns-then-greatest-le0 : goal.returns-then-greatest-le0
returns-then-greatest-le0 c =
    let same = to_z-of_z w64 c.args.greatest c.ranges.greatest in
    let test = c.if-greatest-le0.true in
    ap (λ (x : ℤ). Ok x) same ∙ greatest_kept (length c.args.others.now) c.args.greatest c.ranges.greatest (omega (arith, ints))
