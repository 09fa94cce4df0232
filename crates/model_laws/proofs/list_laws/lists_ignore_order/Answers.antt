use Rattle.model_laws.proofs.ListLemmas.{list-same}
use Rattle.model_laws.proofs.list_laws.lists_ignore_order.Goals as goal

pub returns : goal.returns
returns c = list-same
