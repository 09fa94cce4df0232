use Rattle.model_laws.proofs.DomainOrderLemmas.{cuts_along_ignore_order}
use Rattle.model_laws.proofs.domain_laws.cuts_along_ignore_order.Goals as goal

pub returns : goal.returns
returns c = cuts_along_ignore_order
