use Rattle.model_laws.proofs.RankLemmas.{ranks_by_id_have_all}
use Rattle.model_laws.proofs.domain_laws.ranks_by_id_have_all.Goals as goal

pub returns : goal.returns
returns c = ranks_by_id_have_all c.ranks_in_turn_have_all.ensures c.parts_keep_permutations.ensures c.orders_by_id_have_all.ensures
