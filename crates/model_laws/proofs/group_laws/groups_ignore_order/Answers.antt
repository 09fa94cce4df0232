use Rattle.model_laws.proofs.GroupOrderLemmas.{groups_ignore_order}
use Rattle.model_laws.proofs.group_laws.groups_ignore_order.Goals as goal

pub returns : goal.returns
returns c = groups_ignore_order c.group_cells_are_ordered.ensures
