use Rattle.std.proofs.Common.{◌≡◌, length, ◌+◌, ◌-◌, ◌*◌, ◌≤◌}
use Rattle.cell_runs.proofs.RunLemmas.{AreKeyRunsBelow}
use Rattle.cell_runs.proofs.finding.find_runs.Given as goal

abbrev pub invariant-loop-place : goal.invariant-loop-place
invariant-loop-place g l =
    (l.place ≤ length l.keys) × (l.gaps ≡ l.fn.t) × AreKeyRunsBelow l.fn.t l.b l.keys l.place l.runs.items
    × (l.steps ≤ l.fn.steps + 31 * length l.runs.items) × (l.gaps.a ≡ 0 → l.steps ≡ l.fn.steps)

abbrev pub decreases-loop-place : goal.decreases-loop-place
decreases-loop-place g l = length l.keys - l.place
