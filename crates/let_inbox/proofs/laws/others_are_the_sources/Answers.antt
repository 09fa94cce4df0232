use Rattle.let_inbox.proofs.OtherLemmas.{others_are_the_sources}
use Rattle.let_inbox.proofs.laws.others_are_the_sources.Goals as goal

pub returns : goal.returns
returns c = others_are_the_sources
