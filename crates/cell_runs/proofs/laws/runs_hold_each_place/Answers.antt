use Rattle.cell_runs.proofs.TurnLemmas.{holds_place}
use Rattle.cell_runs.proofs.laws.runs_hold_each_place.Goals as goal

pub returns : goal.returns
returns c = holds_place
