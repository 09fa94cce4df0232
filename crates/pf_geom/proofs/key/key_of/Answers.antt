use Rattle.pf_geom.specs.Key.{morton_key}
use Rattle.pf_geom.proofs.KeyLemmas.{HasBitsOf-morton_key}
use Rattle.pf_geom.proofs.key.key_of.Goals as goal

pub returns-clause-value : goal.returns-clause-value
unfolding morton_key
returns-clause-value c =
    rw (← c.p.view_is, c.spread.ensures.value, c.spread-2.ensures.value, c.spread-3.ensures.value)

pub returns-clause-bits : goal.returns-clause-bits
returns-clause-bits c = rw (returns-clause-value c) (HasBitsOf-morton_key c.args.p)
