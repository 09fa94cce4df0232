use Rattle.order_laws.proofs.PermutationLemmas.{parts_keep_permutations}
use Rattle.order_laws.proofs.parts.parts_keep_permutations.Goals as goal

pub returns : goal.returns
returns g c = parts_keep_permutations
