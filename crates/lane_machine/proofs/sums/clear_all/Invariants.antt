use Rattle.std.proofs.Common.{◌≡◌, ◌<◌, ◌≤◌, ℕ}
use Rattle.lane_machine.specs.Gathered.{total_at}
use Rattle.lane_machine.specs.Total.{nothing}
use Rattle.lane_machine.proofs.sums.clear_all.Given as goal

abbrev pub invariant-loop-k : goal.invariant-loop-k
invariant-loop-k l = record {
  cleared : (f : ℕ) → f < l.k → total_at l.totals f ≡ nothing (total_at l.fn.totals f).combine;
  left : (f : ℕ) → l.k ≤ f → total_at l.totals f ≡ total_at l.fn.totals f;
}
