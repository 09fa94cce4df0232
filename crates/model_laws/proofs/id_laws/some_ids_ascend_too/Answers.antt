use Rattle.model_laws.proofs.IdLemmas.{some_ids_ascend_too}
use Rattle.model_laws.proofs.id_laws.some_ids_ascend_too.Goals as goal

pub returns : goal.returns
returns c = some_ids_ascend_too
