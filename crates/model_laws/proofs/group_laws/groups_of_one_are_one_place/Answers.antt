use Rattle.model_laws.proofs.GroupOrderLemmas.{groups_of_one_are_one_place}
use Rattle.model_laws.proofs.group_laws.groups_of_one_are_one_place.Goals as goal

pub returns : goal.returns
returns c = groups_of_one_are_one_place c.keys_are_distinct.ensures
