use Rattle.model_laws.proofs.RankLemmas.{one_rank}
use Rattle.model_laws.proofs.domain_laws.one_rank_has_its_own.Goals as goal

pub returns : goal.returns
returns c = one_rank
