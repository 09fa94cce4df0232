use Rattle.exchange.proofs.RankLemmas.{each_particle_is_with_its_owner}
use Rattle.exchange.proofs.laws.each_particle_is_with_its_owner.Goals as goal

pub returns : goal.returns
returns c = each_particle_is_with_its_owner c.orders_by_id_have_distinct_ids.ensures c.orders_by_id_keep_particles.ensures c.some_have_distinct_ids.ensures c.tests_keep_what_passes.ensures
