use Rattle.std.proofs.Common.{◌≡◌, ◌*◌, ◌^◌, ◌≤◌, ◌+ℤ◌, pos, unsigned_abs, drop, map}
use Rattle.std.specs.Prelude.{slice_index_or}
use Rattle.pf_model.specs.Sums.{int_sum_by}
use Rattle.plain_run.proofs.forces.sum_along.Given as goal

abbrev pub invariant-loop-value : goal.invariant-loop-value
invariant-loop-value l = record {
  sum : l.sum +ℤ int_sum_by (λ n. n) (map (λ v. slice_index_or v l.axis (pos 0)) (drop l.value-index l.values)) ≡ int_sum_by (λ n. n) (map (λ v. slice_index_or v l.axis (pos 0)) l.values);
  few : unsigned_abs l.sum ≤ l.value-index * 2 ^ 63;
}
