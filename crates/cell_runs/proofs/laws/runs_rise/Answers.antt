use Rattle.cell_runs.proofs.TurnLemmas.{rise}
use Rattle.cell_runs.proofs.laws.runs_rise.Goals as goal

pub returns : goal.returns
returns c = rise
