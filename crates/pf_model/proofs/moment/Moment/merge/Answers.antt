use Rattle.std.proofs.Common.{◌≡◌, ◌+◌, ◌≤◌, ap, arith}
use Rattle.pf_model.specs.Totals.{Totals}
use Rattle.pf_model.proofs.MomentLemmas.{IsSumOf-pairwise, inside-sums}
use Rattle.pf_model.proofs.moment.Moment.merge.Goals as goal

pub invariant_of-result : goal.invariant_of-result
invariant_of-result c =
    let m = c.self.inside in
    let n = c.other.inside in
    let few : m.count + n.count ≤ 65536 =
    (let a : m.count ≡ c.args.self.count = ap (λ (v : Totals). v.count) c.self.view_is in
    let b : n.count ≡ c.args.other.count = ap (λ (v : Totals). v.count) c.other.view_is in
    omega arith) in
    record {
      sums = rw c.attribute_sums.ensures (IsSumOf-pairwise m.count m.mass n.count n.mass m.attr n.attr few c.self.invariant.sums c.other.invariant.sums);
      inside = inside-sums m.mass n.mass m.weighted n.weighted c.self.invariant.inside c.other.invariant.inside;
    }
