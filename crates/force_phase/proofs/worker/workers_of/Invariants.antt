use Rattle.std.proofs.Common.{◌≡◌, All, length, flat_map}
use Rattle.force_phase.specs.Working.{HasFinished, IsAtWork}
use Rattle.force_phase.proofs.worker.workers_of.Given as goal

abbrev pub invariant-loop-seat : goal.invariant-loop-seat
invariant-loop-seat g l = record {
  count : length l.workers.items ≡ length l.yielded;
  at_work : All (IsAtWork l.shared.board.now) l.workers.items;
  finished : All (λ w. HasFinished l.shared.edge l.shared.t.now (flat_map g.H.HasLists.has l.shared.lists.now) w.share) l.workers.items;
}
