use Rattle.step_core.proofs.CoreLemmas.{runs_go_on}
use Rattle.step_core.proofs.laws.runs_go_on.Goals as goal

pub returns : goal.returns
returns c = runs_go_on
