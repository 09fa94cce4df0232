use Rattle.model_laws.proofs.RankLemmas.{owners_are_ranks}
use Rattle.model_laws.proofs.domain_laws.owners_are_ranks.Goals as goal

pub returns : goal.returns
returns c = owners_are_ranks
