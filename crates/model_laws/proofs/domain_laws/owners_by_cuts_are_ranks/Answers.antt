use Rattle.model_laws.proofs.RankLemmas.{owners_by_cuts_are_ranks}
use Rattle.model_laws.proofs.domain_laws.owners_by_cuts_are_ranks.Goals as goal

pub returns : goal.returns
returns c = owners_by_cuts_are_ranks
