use Rattle.model_laws.proofs.PlaceLemmas.{entries_have_levels}
use Rattle.model_laws.proofs.list_laws.entries_have_levels.Goals as goal

pub returns : goal.returns
returns c = entries_have_levels
