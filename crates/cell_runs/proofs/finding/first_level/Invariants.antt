use Rattle.std.proofs.Common.{ℕ, ◌+◌, ◌<◌, ◌≤◌}
use Rattle.pf_model.specs.Criterion.{Passes}
use Rattle.cell_runs.specs.Finding.{cell_of_key, NoSharedPasses}
use Rattle.cell_runs.proofs.finding.first_level.Given as goal

abbrev pub invariant-loop-level : goal.invariant-loop-level
invariant-loop-level g l = record {
  fail : NoSharedPasses l.gaps l.b l.fn.before l.key → (lower : ℕ) → lower < l.level → Passes l.b (cell_of_key l.key lower) l.gaps → ⊥;
  counted : l.steps + l.first ≤ l.fn.steps + l.level;
}

abbrev pub invariant-loop-deep : goal.invariant-loop-deep
invariant-loop-deep g l = record {
  fail : NoSharedPasses l.gaps l.b l.fn.before l.key → (lower : ℕ) → lower < l.deep → Passes l.b (cell_of_key l.key lower) l.gaps → ⊥;
  counted : l.steps + l.first ≤ l.fn.steps + l.deep + 1;
}
