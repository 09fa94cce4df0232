use Rattle.run_laws.proofs.TextLemmas.{thin_texts}
use Rattle.run_laws.proofs.laws.thin_texts_are_thin_dumps.Goals as goal

pub returns : goal.returns
returns c = thin_texts c.lone_ranks_build_so.ensures c.thin_builds_are_so.ensures c.pulls_add_up.ensures c.orders_by_id_stay.ensures c.orders_by_id_have_distinct_ids.ensures c.orders_by_id_keep_particles.ensures
