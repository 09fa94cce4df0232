use Rattle.run_model.proofs.LoneLemmas.{lone_build}
use Rattle.run_model.proofs.laws.lone_ranks_build_so.Goals as goal

pub returns : goal.returns
returns c = lone_build c.lone_ranks_have_all.ensures c.kept_lists_begin_as_lists.ensures c.particles_of_one_id_are_one.ensures
