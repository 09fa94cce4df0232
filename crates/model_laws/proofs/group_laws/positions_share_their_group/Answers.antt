use Rattle.model_laws.proofs.GroupLemmas.{share_group_cell}
use Rattle.model_laws.proofs.group_laws.positions_share_their_group.Goals as goal

pub returns : goal.returns
returns c = share_group_cell c.positions_share_lower_cells.ensures
