use Rattle.model_laws.proofs.IdLemmas.{by_id-distinct}
use Rattle.model_laws.proofs.id_laws.orders_by_id_have_distinct_ids.Goals as goal

pub returns : goal.returns
returns c = by_id-distinct
