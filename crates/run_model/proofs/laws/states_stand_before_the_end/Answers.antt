use Rattle.run_model.proofs.StateLemmas.{states_stand}
use Rattle.run_model.proofs.laws.states_stand_before_the_end.Goals as goal

pub returns : goal.returns
returns c = states_stand
