use Rattle.model_laws.proofs.ReuseLemmas.{some_have_distinct_ids}
use Rattle.model_laws.proofs.particle_laws.some_have_distinct_ids.Goals as goal

pub returns : goal.returns
returns c = some_have_distinct_ids
