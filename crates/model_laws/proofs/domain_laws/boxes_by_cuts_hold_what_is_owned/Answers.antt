use Rattle.model_laws.proofs.DomainLemmas.{boxes_by_cuts_hold_what_is_owned}
use Rattle.model_laws.proofs.domain_laws.boxes_by_cuts_hold_what_is_owned.Goals as goal

pub returns : goal.returns
returns c = boxes_by_cuts_hold_what_is_owned
