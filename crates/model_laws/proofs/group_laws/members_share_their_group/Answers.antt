use Rattle.model_laws.proofs.GroupLemmas.{members_share_their_group}
use Rattle.model_laws.proofs.group_laws.members_share_their_group.Goals as goal

pub returns : goal.returns
returns c = members_share_their_group c.positions_share_lower_cells.ensures
