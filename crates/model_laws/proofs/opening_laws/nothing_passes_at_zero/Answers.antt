use Rattle.model_laws.proofs.CriterionLemmas.{nothing_passes_at_zero}
use Rattle.model_laws.proofs.opening_laws.nothing_passes_at_zero.Goals as goal

pub returns : goal.returns
returns c = nothing_passes_at_zero
