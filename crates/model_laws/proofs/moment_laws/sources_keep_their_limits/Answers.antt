use Rattle.model_laws.proofs.LimitLemmas.{sources_keep_their_limits}
use Rattle.model_laws.proofs.moment_laws.sources_keep_their_limits.Goals as goal

pub returns : goal.returns
returns c = sources_keep_their_limits
