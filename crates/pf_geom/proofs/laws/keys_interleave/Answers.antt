use Rattle.pf_geom.proofs.KeyLemmas.{HasBitsOf-morton_key}
use Rattle.pf_geom.proofs.laws.keys_interleave.Goals as goal

pub returns : goal.returns
returns c = λ p _. HasBitsOf-morton_key p
