use Rattle.std.proofs.Common.{◌*◌, ◌≤◌, ◌^◌}
use Rattle.list_bench.proofs.counts.counts_in.Given as goal

abbrev pub invariant-loop-group : goal.invariant-loop-group
invariant-loop-group l = record {
  cells : l.counts.cells ≤ l.group * 2 ^ 26;
  particles : l.counts.particles ≤ l.group * 2 ^ 26;
}
