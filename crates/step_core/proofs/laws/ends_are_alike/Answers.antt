use Rattle.step_core.proofs.EndLemmas.{ends_are_alike}
use Rattle.step_core.proofs.laws.ends_are_alike.Goals as goal

pub returns : goal.returns
returns c = ends_are_alike c.ends_have_whole_lists.ensures
