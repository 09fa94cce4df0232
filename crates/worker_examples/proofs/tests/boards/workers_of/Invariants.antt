use Rattle.std.proofs.Common.{◌≡◌, ◌+◌, All, length}
use Rattle.claim_board.specs.Seats.{IsSeatOf}
use Rattle.worker_examples.proofs.tests.boards.workers_of.Given as goal

abbrev pub invariant-loop-seat : goal.invariant-loop-seat
invariant-loop-seat l = record {
  counted : length l.workers.items + length l.seats.items ≡ length l.fn.seats.items;
  left : All (IsSeatOf l.board) l.seats.items;
  of_board : All (λ w. IsSeatOf l.board w.seat) l.workers.items;
}

abbrev pub decreases-loop-seat : goal.decreases-loop-seat
decreases-loop-seat l = length l.seats.items
