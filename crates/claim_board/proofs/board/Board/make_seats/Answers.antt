use Rattle.std.proofs.Common.{ap, arith}
use Rattle.claim_board.proofs.Keeps.{splits_off}
use Rattle.claim_board.proofs.board.Board.make_seats.Goals as goal

pub split_seat-other-requires : goal.split_seat-other-requires
split_seat-other-requires c = let one = c.args.self.now.one_word in let place = c.loop-given.invariant.place in let more = c.loop-given-test.true in let share = ap (λ m. m.0.share) place in (
  c.loop-given.invariant.table,
  omega arith,
  splits_off c.args.self.now.table.shared.key _ _ (omega arith) (ap (λ m. m.0.claimed) place) (ap (λ m. m.0.nones) place),
)
