use Rattle.model_laws.proofs.BoxLemmas.{boxes_are_least}
use Rattle.model_laws.proofs.group_laws.boxes_are_least.Goals as goal

pub returns : goal.returns
returns c = boxes_are_least
