use Rattle.run_laws.proofs.BuildLemmas.{thin_builds}
use Rattle.run_laws.proofs.laws.thin_builds_are_so.Goals as goal

pub returns : goal.returns
returns c = thin_builds c.lone_ranks_build_so.ensures c.lists_without_cells_are_particles.ensures c.few_particles_are_one_group.ensures
