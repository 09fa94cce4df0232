use Rattle.step_core.proofs.EndLemmas.{runs_are_short}
use Rattle.step_core.proofs.laws.runs_are_short.Goals as goal

pub returns : goal.returns
returns c = runs_are_short
