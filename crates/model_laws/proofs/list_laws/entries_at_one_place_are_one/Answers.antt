use Rattle.model_laws.proofs.PlaceLemmas.{entries_at_one_place_are_one}
use Rattle.model_laws.proofs.list_laws.entries_at_one_place_are_one.Goals as goal

pub returns : goal.returns
returns c = entries_at_one_place_are_one
