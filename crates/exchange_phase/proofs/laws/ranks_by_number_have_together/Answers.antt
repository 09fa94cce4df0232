use Rattle.exchange_phase.proofs.Together.{ranks_by_number_have_together}
use Rattle.exchange_phase.proofs.laws.ranks_by_number_have_together.Goals as goal

pub returns : goal.returns
returns c = ranks_by_number_have_together
