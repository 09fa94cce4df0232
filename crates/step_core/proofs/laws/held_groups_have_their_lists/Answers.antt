use Rattle.step_core.proofs.EndLemmas.{held_groups_have_their_lists}
use Rattle.step_core.proofs.laws.held_groups_have_their_lists.Goals as goal

pub returns : goal.returns
returns c = held_groups_have_their_lists c.all_ranks_have_all.ensures
