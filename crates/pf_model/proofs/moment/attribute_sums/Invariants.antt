use Rattle.std.proofs.Common.{◌≡◌, length, take, drop, ◌++◌}
use Rattle.pf_model.specs.Sums.{pairwise_sums}
use Rattle.pf_model.proofs.moment.attribute_sums.Given as goal

abbrev pub invariant-loop-k : goal.invariant-loop-k
invariant-loop-k l = (length l.a ≡ 8) × (length l.b ≡ 8) × (l.sums ≡ take l.k (pairwise_sums l.a l.b) ++ drop l.k l.a)
