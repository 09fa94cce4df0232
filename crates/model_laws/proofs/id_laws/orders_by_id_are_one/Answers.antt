use Rattle.model_laws.proofs.IdLemmas.{by_id-same}
use Rattle.model_laws.proofs.id_laws.orders_by_id_are_one.Goals as goal

pub returns : goal.returns
returns c = by_id-same
