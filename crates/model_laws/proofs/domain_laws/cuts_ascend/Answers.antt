use Rattle.model_laws.proofs.DomainLemmas.{cuts_ascend}
use Rattle.model_laws.proofs.domain_laws.cuts_ascend.Goals as goal

pub returns : goal.returns
returns c = cuts_ascend
