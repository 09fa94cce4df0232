use Rattle.model_laws.proofs.SufficiencyLemmas.{boxes_lie_in_domains}
use Rattle.model_laws.proofs.sufficiency_laws.boxes_lie_in_domains.Goals as goal

pub returns : goal.returns
returns c = boxes_lie_in_domains c.boxes_are_least.ensures c.domain_boxes_hold_what_is_owned.ensures
