use Rattle.std.proofs.Common.{◌∙◌, arith}
use Rattle.claim_board.proofs.Keeps.{knows_all}
use Rattle.claim_board.proofs.board.Board.close.Goals as goal

pub load-requires : goal.load-requires
load-requires c = let one = c.args.self.one_word in let all = c.join_seats-place.ensures.shares ∙ c.requires.all in let some = c.args.self.some_seat in (
  c.join_seats-place.ensures.of_board.0,
  omega arith,
  knows_all c.args.self.table.shared.key _ _ _ all (omega arith) c.join_seats-place.ensures.told,
)
