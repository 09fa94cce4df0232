use Rattle.model_laws.proofs.ListCellLemmas.{first_cells_hold_their_members}
use Rattle.model_laws.proofs.list_laws.first_cells_hold_their_members.Goals as goal

pub returns : goal.returns
returns c = first_cells_hold_their_members c.positions_share_lower_cells.ensures
