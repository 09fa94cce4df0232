use Rattle.std.proofs.Common.{rules, of_calls}
use Rattle.std.proofs.lemmas.Fn.{always_returns_same}
use Rattle.std.proofs.lemmas.List.Sorted.{IsNonDecreasingBy-from_sort}
use Rattle.pf_model.specs.Particle.{Particle}
use Rattle.rank_step.proofs.world.sort_by_id.Goals as goal

pub returns-clause-sorted : goal.returns-clause-sorted
returns-clause-sorted c =
    IsNonDecreasingBy-from_sort (λ (p : Particle). p.id) _ (c.sort_unstable_by_key.ensures.sorted (λ (p : Particle). p.id) (always_returns_same _ _ _ (λ a r f k. search (rules, of_calls))))
