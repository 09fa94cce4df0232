use Rattle.model_laws.proofs.IdLemmas.{by_id-has}
use Rattle.model_laws.proofs.id_laws.orders_by_id_keep_particles.Goals as goal

pub returns : goal.returns
returns c = by_id-has
