use Rattle.model_laws.proofs.GroupLemmas.{group_cells_are_ordered}
use Rattle.model_laws.proofs.group_laws.group_cells_are_ordered.Goals as goal

pub returns : goal.returns
returns c = group_cells_are_ordered c.rising_lists_are_one.ensures c.cells_of_a_position_nest.ensures c.positions_share_lower_cells.ensures
