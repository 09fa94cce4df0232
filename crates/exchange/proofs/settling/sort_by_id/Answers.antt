use Rattle.std.proofs.Common.{rules, of_calls}
use Rattle.std.proofs.lemmas.List.Sorted.{IsNonDecreasingBy-from_sort_by_key}
use Rattle.pf_model.specs.Particle.{Particle}
use Rattle.exchange.proofs.settling.sort_by_id.Goals as goal

pub returns-clause-in_order : goal.returns-clause-in_order
returns-clause-in_order c =
    let sorted = c.sort_unstable_by_key.new.self in
    c.distinct_keys_rise.ensures (λ j. j.id) sorted (c.distinct_ids_ignore_order.ensures _ sorted c.sort_unstable_by_key.ensures.permutation c.requires)
    (IsNonDecreasingBy-from_sort_by_key (λ (j : Particle). j.id) sorted c.sort_unstable_by_key.ensures.sorted (λ a r f k. search (rules, of_calls)))
