use Rattle.std.proofs.Common.{◌≡◌, ◌+◌, Vec, Global, List, Some, slice_get, rules, of_calls, refl, sym, ◌∙◌, ap, subst}
use Rattle.std.proofs.lemmas.List.Sorted.{IsNonDecreasingBy-from_sort_by_key}
use Rattle.std.proofs.lemmas.Option.{slice_get_read}
use Rattle.pf_model.specs.Particle.{Particle}
use Rattle.group_lists.specs.declared.item_index.IdPlace.{IdPlace}
use Rattle.group_lists.proofs.IndexLemmas.{AreIdsUpTo, ids_more, ids_skip, ids_sorted, place_id}
use Rattle.group_lists.proofs.item_index.ItemIndex.of_items.Goals.{in-One+in_ok-push, in_default}
use Rattle.group_lists.proofs.item_index.ItemIndex.of_items.Goals as goal

pub loop-place-preserved : goal.loop-place-preserved
loop-place-preserved c =
    let items = c.args.items.now in
    let n = c.loop-place.place in
    let item = c.index-items-place.result in
    let read : slice_get items n ≡ Some item = slice_get_read items _ n item refl c.loop-place-test.true c.index-items-place.is in
    elim c.match-item.branch [
      | in-One+in_ok-push w ↦
          let id : w.body.inside.id ≡ w.in-One.body.id = ap (λ (q : Particle). q.id) w.body.view_is in
          subst (λ (l : List IdPlace). AreIdsUpTo items (n + 1) l) (sym (ap (λ (v : Vec IdPlace Global). v.items) w.ids-is))
          (ids_more items n (n + 1) c.loop-place.ids.items w.push.new.self.items w.in-One.body _ c.loop-place.invariant (read ∙ ap Some w.in-One.is)
          (λ i. record { id = id i; place = n }) w.in_ok-push.ensures.items refl)
      | in_default w ↦
          subst (λ (l : List IdPlace). AreIdsUpTo items (n + 1) l) (sym (ap (λ (v : Vec IdPlace Global). v.items) w.ids-is))
          (ids_skip items n (n + 1) c.loop-place.ids.items c.loop-place.invariant (λ p e. w.in_default.not-One p (let both = sym read ∙ e in cc)) refl)
    ]

pub returns : goal.returns
returns c =
    let ids = c.sort_unstable_by_key.new.self.items in
    record {
      few = c.requires.few;
      keyed = c.requires.keyed;
      ascending = c.requires.ascending;
      ids = ids_sorted c.args.items.now c.loop-place.place c.loop-place.ids.items ids c.loop-place-test.false c.loop-place.invariant c.sort_unstable_by_key.ensures.permutation
          (IsNonDecreasingBy-from_sort_by_key place_id ids c.sort_unstable_by_key.ensures.sorted (λ a r q k. search (rules, of_calls)));
      distinct = c.requires.distinct;
    }
