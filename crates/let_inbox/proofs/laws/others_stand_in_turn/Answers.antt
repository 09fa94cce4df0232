use Rattle.let_inbox.proofs.OtherLemmas.{others_stand_in_turn}
use Rattle.let_inbox.proofs.laws.others_stand_in_turn.Goals as goal

pub returns : goal.returns
returns c = others_stand_in_turn
