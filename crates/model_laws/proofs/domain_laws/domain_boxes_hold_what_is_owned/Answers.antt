use Rattle.model_laws.proofs.DomainLemmas.{domain_boxes_hold_what_is_owned}
use Rattle.model_laws.proofs.domain_laws.domain_boxes_hold_what_is_owned.Goals as goal

pub returns : goal.returns
returns c = domain_boxes_hold_what_is_owned
