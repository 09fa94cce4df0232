use Rattle.model_laws.proofs.GroupLemmas.{groups_are_few}
use Rattle.model_laws.proofs.group_laws.groups_are_few.Goals as goal

pub returns : goal.returns
returns c = groups_are_few c.orders_are_short.ensures
