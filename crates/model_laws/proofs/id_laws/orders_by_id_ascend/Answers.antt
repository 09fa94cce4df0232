use Rattle.model_laws.proofs.IdLemmas.{orders_by_id_ascend}
use Rattle.model_laws.proofs.id_laws.orders_by_id_ascend.Goals as goal

pub returns : goal.returns
returns c = orders_by_id_ascend
