use Rattle.let_inbox.proofs.OtherLemmas.{others_grow}
use Rattle.let_inbox.proofs.laws.others_grow.Goals as goal

pub returns : goal.returns
returns c = others_grow
