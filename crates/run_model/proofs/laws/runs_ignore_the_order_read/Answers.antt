use Rattle.run_model.proofs.ParticleLemmas.{same_run}
use Rattle.run_model.proofs.laws.runs_ignore_the_order_read.Goals as goal

pub returns : goal.returns
returns c = same_run c.orders_by_id_are_one.ensures
