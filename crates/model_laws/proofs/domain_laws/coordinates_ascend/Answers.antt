use Rattle.model_laws.proofs.CutLemmas.{coordinates-rise}
use Rattle.model_laws.proofs.domain_laws.coordinates_ascend.Goals as goal

pub returns : goal.returns
returns c = coordinates-rise
