use Rattle.model_laws.proofs.PresentLemmas.{present_are_found}
use Rattle.model_laws.proofs.reuse_laws.present_are_found.Goals as goal

pub returns : goal.returns
returns c = present_are_found
