use Rattle.model_laws.proofs.RankLemmas.{ranks_in_turn_have_all}
use Rattle.model_laws.proofs.domain_laws.ranks_in_turn_have_all.Goals as goal

pub returns : goal.returns
returns c = ranks_in_turn_have_all c.parts_by_key_are_all.ensures
