use Rattle.model_laws.proofs.DomainOrderLemmas.{ranks_have_their_own}
use Rattle.model_laws.proofs.domain_laws.ranks_have_their_own.Goals as goal

pub returns : goal.returns
returns c = ranks_have_their_own
