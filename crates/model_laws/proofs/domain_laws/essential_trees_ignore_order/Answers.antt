use Rattle.model_laws.proofs.DomainOrderLemmas.{essential_trees_ignore_order}
use Rattle.model_laws.proofs.domain_laws.essential_trees_ignore_order.Goals as goal

pub returns : goal.returns
returns c = essential_trees_ignore_order
