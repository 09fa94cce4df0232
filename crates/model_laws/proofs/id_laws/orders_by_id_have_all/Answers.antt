use Rattle.model_laws.proofs.IdLemmas.{orders_by_id_have_all}
use Rattle.model_laws.proofs.id_laws.orders_by_id_have_all.Goals as goal

pub returns : goal.returns
returns c = orders_by_id_have_all
