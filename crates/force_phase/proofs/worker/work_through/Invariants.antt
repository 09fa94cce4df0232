use Rattle.std.proofs.Common.{◌-◌, length, flat_map}
use Rattle.claim_board.specs.Seats.{total_of, claimed_by}
use Rattle.force_phase.specs.Working.{HasFinished, IsAtWork}
use Rattle.force_phase.proofs.worker.work_through.Given as goal

abbrev pub invariant-loop-group : goal.invariant-loop-group
invariant-loop-group g l = record {
  at_work : IsAtWork l.shared.board.now l.worker;
  finished : HasFinished l.shared.edge l.shared.t.now (flat_map g.H.HasLists.has l.shared.lists.now) l.worker.share;
}

abbrev pub decreases-loop-group : goal.decreases-loop-group
decreases-loop-group g l = total_of l.shared.board.now - length (claimed_by l.worker.seat)
