use Rattle.let_inbox.proofs.OtherLemmas.{others_ascend}
use Rattle.let_inbox.proofs.laws.others_ascend.Goals as goal

pub returns : goal.returns
returns c = others_ascend
