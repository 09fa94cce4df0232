use Rattle.std.proofs.Common.{◌∙◌, ap, arith}
use Rattle.claim_board.specs.Rule.{nones_of}
use Rattle.claim_board.proofs.Keeps.{claims_next}
use Rattle.claim_board.proofs.board.Board.claim.Goals as goal

pub fetch_add-found-requires : goal.fetch_add-found-requires
fetch_add-found-requires c = let one = c.args.self.now.one_word in let share = c.args.s.now.one_share in (
  c.requires.place,
  omega arith,
  claims_next c.args.self.now.table.shared.key _ _ _ (c.args.s.now.told_once ∙ ap nones_of c.if-s.false) (omega arith),
)
