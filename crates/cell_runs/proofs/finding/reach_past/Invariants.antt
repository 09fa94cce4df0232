use Rattle.std.proofs.Common.{◌-◌, ◌≤◌, length}
use Rattle.cell_runs.proofs.finding.reach_past.Given as goal

abbrev pub invariant-loop-reach : goal.invariant-loop-reach
invariant-loop-reach l = (1 ≤ l.reach) × (l.reach ≤ length l.keys)

abbrev pub decreases-loop-reach : goal.decreases-loop-reach
decreases-loop-reach l = length l.keys - l.reach
