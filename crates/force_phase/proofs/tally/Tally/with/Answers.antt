use Rattle.std.proofs.Common.{◌+◌, ◌<◌, ◌^◌, ap, arith}
use Rattle.force_phase.proofs.TallyLemmas.{few_passed}
use Rattle.force_phase.proofs.tally.Tally.with.Goals as goal

pub invariant_of-result : goal.invariant_of-result
invariant_of-result c =
    let n = c.self.inside.count in
    let small : n < 2 ^ 60 = omega (arith, ap (λ t. t.count) c.self.view_is, c.requires) in
    record {
      x_few = few_passed (n + 1) c.joined.result (omega arith) (c.joined.ensures.few n (few_passed n c.self.inside.x (omega arith) c.self.invariant.x_few));
      y_few = few_passed (n + 1) c.joined-2.result (omega arith) (c.joined-2.ensures.few n (few_passed n c.self.inside.y (omega arith) c.self.invariant.y_few));
      z_few = few_passed (n + 1) c.joined-3.result (omega arith) (c.joined-3.ensures.few n (few_passed n c.self.inside.z (omega arith) c.self.invariant.z_few));
    }
