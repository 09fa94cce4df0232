use Rattle.let_inbox.proofs.OtherLemmas.{others_are_few}
use Rattle.let_inbox.proofs.laws.others_are_few.Goals as goal

pub returns : goal.returns
returns c = others_are_few
