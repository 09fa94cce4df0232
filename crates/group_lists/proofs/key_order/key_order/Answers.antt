use Rattle.std.proofs.Common.{◌≡◌, ℕ, ◌<◌, List, length, map, rules, of_calls, ◌∙◌, ap, subst, arith}
use Rattle.std.specs.List.{range_with_len}
use Rattle.std.specs.List.Sorted.{IsPermutation}
use Rattle.std.proofs.lemmas.List.Sorted.{All-permutation, IsPermutation-map, IsNonDecreasingBy-from_sort_by_key}
use Rattle.group_lists.specs.declared.key_order.KeyPlace.{KeyPlace}
use Rattle.group_lists.proofs.PlacedLemmas.{HasItsKey, order_place, order_key, none_first, first_more}
use Rattle.group_lists.proofs.key_order.key_order.Goals as goal

pub loop-place-init : goal.loop-place-init
loop-place-init c = none_first c.args.items.now c.in_ok-order.order.items c.in_ok-order.ensures.items

pub loop-place-preserved : goal.loop-place-preserved
loop-place-preserved c =
    first_more c.args.items.now c.loop-place.place c.loop-place.order.items c.push.new.self.items _ c.index-items-place.result c.loop-place-test.true c.index-items-place.is
    (λ i. record { key = c.item_key.ensures.value i; place = c.loop-place.place }) c.loop-place.invariant c.in_ok-push.ensures.items

pub returns-clause-each_once : goal.returns-clause-each_once
returns-clause-each_once c =
    let raw = c.loop-place.order.items in
    let sorted = c.sort_unstable_by_key.new.self.items in
    let past = c.loop-place-test.false in
    let end = c.loop-place.auto.place-end in
    let all : c.loop-place.place ≡ length c.args.items.now = omega arith in
    subst (λ (ns : List ℕ). IsPermutation ns (map order_place sorted)) (c.loop-place.invariant.places ∙ ap (range_with_len 0) all)
    (IsPermutation-map order_place raw sorted c.sort_unstable_by_key.ensures.permutation)

pub returns-clause-within : goal.returns-clause-within
returns-clause-within c =
    All-permutation (λ (o : KeyPlace). o.place < length c.args.items.now) c.loop-place.order.items c.sort_unstable_by_key.new.self.items c.sort_unstable_by_key.ensures.permutation c.loop-place.invariant.within

pub returns-clause-keyed : goal.returns-clause-keyed
returns-clause-keyed c =
    All-permutation (HasItsKey c.args.items.now) c.loop-place.order.items c.sort_unstable_by_key.new.self.items c.sort_unstable_by_key.ensures.permutation c.loop-place.invariant.keyed

pub returns-clause-ascending : goal.returns-clause-ascending
returns-clause-ascending c =
    IsNonDecreasingBy-from_sort_by_key order_key c.sort_unstable_by_key.new.self.items c.sort_unstable_by_key.ensures.sorted (λ a r q k. search (rules, of_calls))
