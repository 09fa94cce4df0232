use Rattle.order_laws.proofs.PermutationLemmas.{IsPermutation-filter}
use Rattle.order_laws.proofs.parts.tests_keep_permutations.Goals as goal

pub returns : goal.returns
returns g c = IsPermutation-filter
