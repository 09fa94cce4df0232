use Rattle.model_laws.proofs.LimitLemmas.{moments_keep_their_limits}
use Rattle.model_laws.proofs.moment_laws.moments_keep_their_limits.Goals as goal

pub returns : goal.returns
returns c = moments_keep_their_limits
