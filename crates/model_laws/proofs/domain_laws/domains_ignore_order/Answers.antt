use Rattle.model_laws.proofs.DomainOrderLemmas.{domains_ignore_order}
use Rattle.model_laws.proofs.domain_laws.domains_ignore_order.Goals as goal

pub returns : goal.returns
returns c = domains_ignore_order
