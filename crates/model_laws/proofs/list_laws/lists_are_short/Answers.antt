use Rattle.model_laws.proofs.ListCellLemmas.{lists_are_short}
use Rattle.model_laws.proofs.list_laws.lists_are_short.Goals as goal

pub returns : goal.returns
returns c = lists_are_short c.orders_are_short.ensures
