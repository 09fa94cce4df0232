use Rattle.std.proofs.Common.{◌≡◌, ◌<◌, ◌+◌, ◌++◌, true, All, length, flat_map}
use Rattle.claim_board.specs.Seats.{claimed_by, was_told, IsSeatOf}
use Rattle.claim_board.proofs.board.Board.join_seats.Given as goal

abbrev pub invariant-loop-other : goal.invariant-loop-other
invariant-loop-other l = record {
  table : l.place.table_id ≡ l.self.table.shared.table_id;
  total : l.place.me.0.total ≡ l.self.total;
  shares : l.place.me.0.share + length l.seats.items ≡ length l.fn.seats.items;
  some : 0 < l.place.me.0.share;
  claimed : flat_map claimed_by l.seats.items ++ l.place.me.0.claimed ≡ flat_map claimed_by l.fn.seats.items;
  told : 0 < l.place.me.0.nones;
  of_board : All (IsSeatOf l.self) l.seats.items;
  all_told : All (λ s. was_told s ≡ true) l.seats.items;
}

abbrev pub decreases-loop-other : goal.decreases-loop-other
decreases-loop-other l = goal.left-loop-other l
