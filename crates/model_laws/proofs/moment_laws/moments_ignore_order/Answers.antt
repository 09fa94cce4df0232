use Rattle.model_laws.proofs.OrderlessSums.{moment_from_sums, same_sums}
use Rattle.model_laws.proofs.moment_laws.moments_ignore_order.Goals as goal

pub returns : goal.returns
returns c = λ js ks h. moment_from_sums js ks (same_sums js ks h)
