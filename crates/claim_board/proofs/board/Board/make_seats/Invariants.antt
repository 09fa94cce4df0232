use Rattle.std.proofs.Common.{◌≡◌, ◌≤◌, ◌-◌, ◌+◌, [], All, length}
use Rattle.claim_board.specs.Rule.{fresh_view}
use Rattle.claim_board.specs.Seats.{IsSeatOf, IsFresh}
use Rattle.claim_board.proofs.board.Board.make_seats.Given as goal

abbrev pub invariant-loop-given : goal.invariant-loop-given
invariant-loop-given l = record {
  counted : length l.seats.items + 1 ≡ l._given;
  within : l._given ≤ l.count;
  table : l.place.table_id ≡ l.self.table.shared.table_id;
  place : l.place.me ≡ (fresh_view l.self.total (l.count + 1 - l._given), []);
  of_board : All (IsSeatOf l.self) l.seats.items;
  fresh : All IsFresh l.seats.items;
}
