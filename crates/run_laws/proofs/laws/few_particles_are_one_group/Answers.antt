use Rattle.run_laws.proofs.GroupsLemmas.{one_group}
use Rattle.run_laws.proofs.laws.few_particles_are_one_group.Goals as goal

pub returns : goal.returns
returns c = one_group c.group_levels_are_least.ensures c.positions_have_cells.ensures
