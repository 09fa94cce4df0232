use Rattle.model_laws.proofs.ReuseLemmas.{particles_of_one_id_are_one}
use Rattle.model_laws.proofs.particle_laws.particles_of_one_id_are_one.Goals as goal

pub returns : goal.returns
returns c = particles_of_one_id_are_one
