use Rattle.std.proofs.Common.{rules, of_calls}
use Rattle.std.proofs.lemmas.Fn.{always_returns_same}
use Rattle.morton_tree.specs.declared.placed.Placed.{Placed}
use Rattle.morton_tree.proofs.sorting.put_in_order.Goals as goal

pub returns-clause-ordered : goal.returns-clause-ordered
returns-clause-ordered g c =
    c.par_sort_unstable_by_key.ensures.sorted (λ (p : Placed). (p.key, p.id)) (always_returns_same _ _ _ (λ a r f k. search (rules, of_calls)))
