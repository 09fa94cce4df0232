use Rattle.model_laws.proofs.GroupLemmas.{group_levels_are_least}
use Rattle.model_laws.proofs.group_laws.group_levels_are_least.Goals as goal

pub returns : goal.returns
returns c = group_levels_are_least
