use Rattle.model_laws.proofs.GroupLemmas.{each_is_in_one_group}
use Rattle.model_laws.proofs.group_laws.each_is_in_one_group.Goals as goal

pub returns : goal.returns
returns c = each_is_in_one_group c.cells_of_a_position_nest.ensures c.positions_share_lower_cells.ensures
