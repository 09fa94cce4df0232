use Rattle.std.proofs.Common.{ℕ, rules, of_calls, ltb, take, drop, ◌-◌}
use Rattle.std.proofs.lemmas.Fn.{always_returns_same}
use Rattle.std.proofs.lemmas.List.Sorted.{IsPartitionedBy-ltb, IsNonDecreasingBy-take, IsNonDecreasingBy-drop}
use Rattle.morton_tree.proofs.KeyLemmas.{place_is_count}
use Rattle.morton_tree.proofs.tree.first_from.Goals as goal

pub returns : goal.returns
returns c =
    let keys = c.args.keys.now in
    let from = c.args.from in
    let to = c.args.to in
    let key = c.args.key in
    let part = IsNonDecreasingBy-take (λ (k : ℕ). k) (to - from) (drop from keys) (IsNonDecreasingBy-drop (λ (k : ℕ). k) from keys c.requires.ascending) in
    place_is_count keys key from to c.partition_point.result c.requires.ascending c.requires.least c.requires.most c.requires.inside c.partition_point.ensures.bound
    (c.partition_point.ensures.partitioned (λ (k : ℕ). ltb k key) (always_returns_same _ _ _ (λ a r f k. search (rules, of_calls)))
    (IsPartitionedBy-ltb (λ (k : ℕ). k) (take (to - from) (drop from keys)) key part))
