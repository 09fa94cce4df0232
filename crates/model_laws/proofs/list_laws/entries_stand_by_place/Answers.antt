use Rattle.model_laws.proofs.PlaceLemmas.{entries_stand_by_place}
use Rattle.model_laws.proofs.list_laws.entries_stand_by_place.Goals as goal

pub returns : goal.returns
returns c = entries_stand_by_place
