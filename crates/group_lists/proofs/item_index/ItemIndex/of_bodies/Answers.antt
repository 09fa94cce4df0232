use Rattle.std.proofs.Common.{◌≡◌, ◌+◌, Some, slice_get, option_map, rules, of_calls, refl, ◌∙◌, ap, arith}
use Rattle.std.proofs.lemmas.List.{length-map}
use Rattle.std.proofs.lemmas.List.Sorted.{IsNonDecreasingBy-from_sort_by_key}
use Rattle.std.proofs.lemmas.Option.{slice_get-map, slice_get_read}
use Rattle.pf_model.specs.declared.entry.Entry.TheVariants.{One}
use Rattle.pf_model.specs.Particle.{Particle}
use Rattle.group_lists.specs.Indexed.{as_items}
use Rattle.group_lists.proofs.KeyedLemmas.{place_key}
use Rattle.group_lists.proofs.IndexLemmas.{ids_more, ids_sorted, place_id, keys_push, keys_of_bodies, keys_rise_as_items, bodies_distinct}
use Rattle.group_lists.proofs.item_index.ItemIndex.of_bodies.Goals as goal

pub loop-place-preserved : goal.loop-place-preserved
loop-place-preserved c =
    let bodies = c.args.bodies.now in
    let n = c.loop-place.place in
    let p : Particle = c.index-bodies-place.result in
    let read : slice_get (as_items bodies) n ≡ Some (One p) =
    slice_get-map (λ (j : Particle). One j) bodies n ∙ ap (option_map (λ (j : Particle). One j)) (slice_get_read bodies _ n p refl c.loop-place-test.true c.index-bodies-place.is) in
    let id : c.body.inside.id ≡ p.id = ap (λ (q : Particle). q.id) c.body.view_is in (
      keys_push bodies n c.loop-place.keys.items c.push.new.self.items p c.key_of.result c.loop-place-test.true c.index-bodies-place.is
          (c.key_of.ensures.value ∙ ap place_key c.body.view_is) c.loop-place.invariant.0 c.in_ok-push.ensures.items,
      ids_more (as_items bodies) n (n + 1) c.loop-place.ids.items c.push-in-loop-place.new.self.items p _ c.loop-place.invariant.1 read
          (λ i. record { id = id i; place = n }) c.in_ok-push-2.ensures.items refl,
    )

pub returns : goal.returns
returns c =
    let ids = c.sort_unstable_by_key.new.self.items in
    let bodies = c.args.bodies.now in
    let long = length-map bodies (λ (j : Particle). One j) in
    let all = c.loop-place-test.false in
    let few = c.requires.few in
    let keyed = keys_of_bodies bodies c.loop-place.place c.loop-place.keys.items all c.loop-place.invariant.0 in
    record {
      few = omega arith;
      keyed = keyed;
      ascending = keys_rise_as_items bodies c.loop-place.keys.items c.requires.ordered keyed;
      ids = ids_sorted (as_items bodies) c.loop-place.place c.loop-place.ids.items ids (omega arith) c.loop-place.invariant.1 c.sort_unstable_by_key.ensures.permutation
          (IsNonDecreasingBy-from_sort_by_key place_id ids c.sort_unstable_by_key.ensures.sorted (λ a r q k. search (rules, of_calls)));
      distinct = bodies_distinct bodies c.requires.distinct;
    }
