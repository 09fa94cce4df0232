use Rattle.std.proofs.Common.{◌≡◌, ◌+◌, true, All, length}
use Rattle.claim_board.specs.Seats.{IsSeatOf, was_told}
use Rattle.worker_examples.proofs.tests.boards.close_all.Given as goal

abbrev pub invariant-loop-worker : goal.invariant-loop-worker
invariant-loop-worker l = record {
  counted : length l.seats.items + length l.workers.items ≡ length l.fn.workers.items;
  left : All (λ w. IsSeatOf l.board w.seat) l.workers.items;
  left_told : All (λ w. was_told w.seat ≡ true) l.workers.items;
  of_board : All (IsSeatOf l.board) l.seats.items;
  told : All (λ s. was_told s ≡ true) l.seats.items;
}

abbrev pub decreases-loop-worker : goal.decreases-loop-worker
decreases-loop-worker l = length l.workers.items
