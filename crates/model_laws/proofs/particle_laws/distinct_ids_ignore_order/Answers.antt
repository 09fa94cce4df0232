use Rattle.model_laws.proofs.ReuseLemmas.{distinct_ids_ignore_order}
use Rattle.model_laws.proofs.particle_laws.distinct_ids_ignore_order.Goals as goal

pub returns : goal.returns
returns c = distinct_ids_ignore_order
