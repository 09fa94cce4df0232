use Rattle.std.proofs.Common.{◌≡◌, length}
use Rattle.force_phase.proofs.RowSteps.{IsRowPlaced}
use Rattle.force_phase.proofs.row.row.Given as goal

abbrev pub invariant-loop-k : goal.invariant-loop-k
invariant-loop-k l =
    IsRowPlaced l.forces l.tallies l.k l.place l.numbers × (length l.numbers ≡ length l.fn.numbers)
