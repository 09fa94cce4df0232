use Rattle.std.proofs.Common.{◌≡◌, ◌++◌}
use Rattle.force_phase.proofs.found.add_all.Given as goal

abbrev pub invariant-loop-row : goal.invariant-loop-row
invariant-loop-row l = l.rows.items ≡ l.fn.rows.items ++ l.yielded
