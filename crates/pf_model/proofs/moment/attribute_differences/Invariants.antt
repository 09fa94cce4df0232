use Rattle.std.proofs.Common.{◌≡◌, length, take, drop, ◌++◌}
use Rattle.pf_model.specs.Sums.{pairwise_differences}
use Rattle.pf_model.proofs.moment.attribute_differences.Given as goal

abbrev pub invariant-loop-k : goal.invariant-loop-k
invariant-loop-k l = (length l.a ≡ 8) × (length l.b ≡ 8) × (l.differences ≡ take l.k (pairwise_differences l.a l.b) ++ drop l.k l.a)
