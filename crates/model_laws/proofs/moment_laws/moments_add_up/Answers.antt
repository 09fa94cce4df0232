use Rattle.pf_model.proofs.MomentLemmas.{moment_of-append}
use Rattle.model_laws.proofs.moment_laws.moments_add_up.Goals as goal

pub returns : goal.returns
returns c = moment_of-append
