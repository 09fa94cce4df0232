use Rattle.model_laws.proofs.IdLemmas.{ascending_ids_differ}
use Rattle.model_laws.proofs.id_laws.ascending_ids_differ.Goals as goal

pub returns : goal.returns
returns c = ascending_ids_differ
