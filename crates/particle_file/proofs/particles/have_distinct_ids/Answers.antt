use Rattle.std.proofs.Common.{sym, subst}
use Rattle.std.specs.Prelude.{nat_eq}
use Rattle.std.specs.List.{IsDistinct}
use Rattle.particle_file.proofs.DistinctLemmas.{distinct_back, distinct_on}
use Rattle.particle_file.proofs.particles.have_distinct_ids.Goals as goal

pub returns : goal.returns
returns c = (
  λ yes. subst (IsDistinct nat_eq) c.copy_ids.ensures (distinct_back _ _ c.sort_unstable.ensures.permutation (c.are_distinct.ensures.0 yes)),
  λ distinct. c.are_distinct.ensures.1 (distinct_on _ _ c.sort_unstable.ensures.permutation (subst (IsDistinct nat_eq) (sym c.copy_ids.ensures) distinct)),
)
