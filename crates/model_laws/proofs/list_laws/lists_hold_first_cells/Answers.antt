use Rattle.model_laws.proofs.ListCellLemmas.{lists_hold_first_cells}
use Rattle.model_laws.proofs.list_laws.lists_hold_first_cells.Goals as goal

pub returns : goal.returns
returns c = lists_hold_first_cells c.cells_of_a_position_nest.ensures c.positions_share_lower_cells.ensures
