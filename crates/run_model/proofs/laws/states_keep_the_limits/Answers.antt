use Rattle.run_model.proofs.LimitLemmas.{states_keep_limits}
use Rattle.run_model.proofs.laws.states_keep_the_limits.Goals as goal

pub returns : goal.returns
returns c = states_keep_limits
