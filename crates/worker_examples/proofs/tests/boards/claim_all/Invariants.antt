use Rattle.std.proofs.Common.{◌-◌, length}
use Rattle.claim_board.specs.Seats.{total_of, claimed_by, IsSeatOf}
use Rattle.worker_examples.proofs.tests.boards.claim_all.Given as goal

abbrev pub invariant-loop-number : goal.invariant-loop-number
invariant-loop-number l = IsSeatOf l.board l.worker.seat

abbrev pub decreases-loop-number : goal.decreases-loop-number
decreases-loop-number l = total_of l.board - length (claimed_by l.worker.seat)
