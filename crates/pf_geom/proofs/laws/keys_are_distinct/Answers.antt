use Rattle.std.proofs.Common.{ap}
use Rattle.pf_geom.specs.Key.{morton_key}
use Rattle.pf_geom.proofs.KeyLemmas.{same_from_key}
use Rattle.pf_geom.proofs.laws.keys_are_distinct.Goals as goal

pub returns : goal.returns
returns c = λ p q p_fits q_fits. (same_from_key p q p_fits q_fits, ap morton_key)
