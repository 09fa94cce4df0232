use Rattle.step_core.proofs.EndLemmas.{ends_have_whole_lists}
use Rattle.step_core.proofs.laws.ends_have_whole_lists.Goals as goal

pub returns : goal.returns
returns c = ends_have_whole_lists c.all_ranks_have_all.ensures
