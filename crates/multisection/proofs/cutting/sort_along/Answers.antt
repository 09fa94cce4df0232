use Rattle.std.proofs.Common.{rules, of_calls}
use Rattle.std.proofs.lemmas.Fn.{always_returns_same}
use Rattle.pf_model.specs.Particle.{Particle}
use Rattle.multisection.specs.Sites.{along, IsInOrder}
use Rattle.multisection.proofs.OrderLemmas.{in_order_from_sort, coordinates_ascend}
use Rattle.multisection.proofs.cutting.sort_along.Goals as goal

in_order : (c : goal.After-sites-1) → IsInOrder c.args.axis c.sort_unstable_by_key.new.self
in_order c =
    let sorted = c.sort_unstable_by_key.ensures.sorted (λ (j : Particle). (along c.args.axis j.at, j.id)) (always_returns_same _ _ _ (λ a r f k. search (rules, of_calls))) in
    in_order_from_sort c.args.axis c.sort_unstable_by_key.new.self (c.distinct_ids_ignore_order.ensures _ _ c.sort_unstable_by_key.ensures.permutation c.requires) sorted

pub returns-clause-in_order : goal.returns-clause-in_order
returns-clause-in_order c = in_order c

pub returns-clause-rise : goal.returns-clause-rise
returns-clause-rise c = coordinates_ascend c.coordinates_ascend.ensures c.orders_along_are_one.ensures c.args.axis c.sort_unstable_by_key.new.self (in_order c)
