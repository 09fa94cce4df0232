use Rattle.model_laws.proofs.RankLemmas.{lone_ranks_have_all}
use Rattle.model_laws.proofs.domain_laws.lone_ranks_have_all.Goals as goal

pub returns : goal.returns
returns c = lone_ranks_have_all
