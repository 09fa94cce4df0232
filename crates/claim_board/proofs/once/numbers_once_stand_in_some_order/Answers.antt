use Rattle.claim_board.proofs.InSomeOrder.{numbers_once_stand_in_some_order}
use Rattle.claim_board.proofs.once.numbers_once_stand_in_some_order.Goals as goal

pub returns : goal.returns
returns c = numbers_once_stand_in_some_order
