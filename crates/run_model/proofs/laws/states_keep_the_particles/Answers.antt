use Rattle.run_model.proofs.ParticleLemmas.{states_keep}
use Rattle.run_model.proofs.laws.states_keep_the_particles.Goals as goal

pub returns : goal.returns
returns c = states_keep
