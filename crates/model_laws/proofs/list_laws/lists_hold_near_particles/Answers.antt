use Rattle.model_laws.proofs.ListCellLemmas.{lists_hold_near_particles}
use Rattle.model_laws.proofs.list_laws.lists_hold_near_particles.Goals as goal

pub returns : goal.returns
returns c = lists_hold_near_particles
