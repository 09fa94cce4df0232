use Rattle.std.proofs.Common.{◌≡◌, length, ap, take, arith}
use Rattle.std.proofs.lemmas.List.{length-take}
use Rattle.pf_model.specs.Totals.{Totals}
use Rattle.pf_model.specs.Sums.{moment_of}
use Rattle.plain_run.proofs.kept.moment_of.Goals as goal

pub merge-moment-requires : goal.merge-moment-requires
unfolding moment_of
merge-moment-requires c =
    let so_far : c.loop-body.moment.count ≡ length (take c.loop-body.body-index c.args.bodies.now) = ap (λ (m : Totals). m.count) c.loop-body.invariant in
    let one : c.of_one.result.count ≡ 1 = ap (λ (m : Totals). m.count) c.of_one.ensures in
    let short = length-take c.loop-body.body-index c.args.bodies.now in
    omega arith
