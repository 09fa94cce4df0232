use Rattle.model_laws.proofs.BoxLemmas.{boxes_ignore_order}
use Rattle.model_laws.proofs.group_laws.boxes_ignore_order.Goals as goal

pub returns : goal.returns
returns c = boxes_ignore_order
