use Rattle.model_laws.proofs.IdLemmas.{ascending_is_by_id}
use Rattle.model_laws.proofs.id_laws.ascending_is_by_id.Goals as goal

pub returns : goal.returns
returns c = ascending_is_by_id
