use Rattle.model_laws.proofs.LimitLemmas.{IsTotals-together}
use Rattle.model_laws.proofs.moment_laws.joined_moments_keep_their_limits.Goals as goal

pub returns : goal.returns
returns c = IsTotals-together
