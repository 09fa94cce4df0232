use Rattle.model_laws.proofs.RankLemmas.{all_ranks}
use Rattle.model_laws.proofs.domain_laws.all_ranks_have_all.Goals as goal

pub returns : goal.returns
returns c = all_ranks
