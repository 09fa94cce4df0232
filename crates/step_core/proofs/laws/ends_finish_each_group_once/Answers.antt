use Rattle.step_core.proofs.EndLemmas.{ends_finish_each_group_once}
use Rattle.step_core.proofs.laws.ends_finish_each_group_once.Goals as goal

pub returns : goal.returns
returns c = ends_finish_each_group_once
