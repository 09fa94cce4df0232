use Rattle.std.proofs.Common.{◌≡◌, length}
use Rattle.std.specs.List.{All}
use Rattle.force_phase.proofs.group_out.rows_of.Given as goal

abbrev pub invariant-loop-row : goal.invariant-loop-row
invariant-loop-row l = (length l.rows.items ≡ l._row) × All (λ row. length row ≡ l.width) l.rows.items
