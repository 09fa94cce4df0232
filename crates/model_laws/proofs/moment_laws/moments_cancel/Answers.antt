use Rattle.model_laws.proofs.DifferenceLemmas.{moments_cancel}
use Rattle.model_laws.proofs.moment_laws.moments_cancel.Goals as goal

pub returns : goal.returns
returns c = moments_cancel
