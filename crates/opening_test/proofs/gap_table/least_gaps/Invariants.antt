use Rattle.std.proofs.Common.{◌≡◌, ℕ, ◌+◌, ◌<◌, ◌≤◌, ◌^◌, length, get_or}
use Rattle.opening_test.specs.LeastGaps.{IsLeastGap, IsLeastNumber}
use Rattle.opening_test.proofs.gap_table.least_gaps.Given as goal

abbrev pub invariant-loop-level : goal.invariant-loop-level
invariant-loop-level l = record {
  all_levels : length l.gaps ≡ 31;
  above : (level : ℕ) (d : ℕ) → level < l.level → IsLeastGap l.fn.t level (get_or l.gaps level d);
  least : l.level ≤ 30 → IsLeastNumber l.fn.t l.level l.least;
  fits : l.least ≤ 2 ^ 80;
}
