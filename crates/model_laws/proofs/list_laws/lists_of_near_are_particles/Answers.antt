use Rattle.model_laws.proofs.PlaceLemmas.{lists_of_near_are_particles}
use Rattle.model_laws.proofs.list_laws.lists_of_near_are_particles.Goals as goal

pub returns : goal.returns
returns c = lists_of_near_are_particles c.maps_keep_orders.ensures
