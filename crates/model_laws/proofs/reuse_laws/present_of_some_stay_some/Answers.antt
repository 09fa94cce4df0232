use Rattle.model_laws.proofs.PresentLemmas.{present_of_some_stay_some}
use Rattle.model_laws.proofs.reuse_laws.present_of_some_stay_some.Goals as goal

pub returns : goal.returns
returns c = present_of_some_stay_some
