use Rattle.model_laws.proofs.LevelLemmas.{none_from_level, level_from_none, first_from_level, level_from_first}
use Rattle.model_laws.proofs.list_laws.levels_are_least.Goals as goal

pub returns : goal.returns
returns c = λ t box p. ((none_from_level t box p, level_from_none t box p), λ level. (first_from_level t box p level, level_from_first t box p level))
