use Rattle.group_lists.proofs.PieceLemmas.{groups_are_served}
use Rattle.group_lists.proofs.laws.groups_are_served.Goals as goal

pub returns : goal.returns
returns c = groups_are_served c.boxes_lie_in_domains.ensures
