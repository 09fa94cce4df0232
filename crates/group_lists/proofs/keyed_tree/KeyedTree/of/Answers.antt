use Rattle.std.proofs.Common.{◌<◌, ◌≤◌, List, length, map, sym, ◌∙◌, ap, subst}
use Rattle.std.specs.List.{All}
use Rattle.std.specs.List.Sorted.{IsPermutation}
use Rattle.pf_model.specs.declared.entry.Entry.{Entry}
use Rattle.pf_model.specs.EssentialTree.{Essential, essential_tree}
use Rattle.pf_model.specs.Sufficiency.{moment_together}
use Rattle.group_lists.specs.declared.key_order.KeyPlace.{KeyPlace}
use Rattle.group_lists.specs.Keyed.{item_key, item_sums, ArePlaced}
use Rattle.group_lists.proofs.TotalLemmas.{essential_total, essential_short, few_together, short_together}
use Rattle.group_lists.proofs.PlacedLemmas.{HasItsKey, order_key, rise_along, keys_of_order, placed_permutation, moved_along, placed_along}
use Rattle.group_lists.proofs.keyed_tree.KeyedTree.of.Given as given
use Rattle.group_lists.proofs.keyed_tree.KeyedTree.of.Goals as goal

-- an essential tree has few items
few_sent : (g : given.Over) (c : goal.After-deref g) → length c.tree.inside.items.items ≤ 65536
few_sent g c =
    subst (λ (es : List Entry). length es ≤ 65536) (sym c.tree.invariant)
    (essential_short c.lists_are_short.ensures g.T.Terms.theta g.T.Terms.grid g.T.Terms.particles c.tree.inside.src c.tree.inside.dst g.T.Terms.are_bodies)

pub key_order-requires : goal.key_order-requires
key_order-requires g c = subst (λ (es : List Entry). length es ≤ 65536) (sym c.deref.ensures.value) (few_sent g c)

pub items_in_order-requires : goal.items_in_order-requires
items_in_order-requires g c =
    let sent = c.deref.ensures.value ∙ sym c.deref-2.ensures.value in
    subst (λ (es : List Entry). All (λ (o : KeyPlace). o.place < length es) c.deref-3.result.now) sent
    (subst (All (λ (o : KeyPlace). o.place < length c.deref.result.now)) (sym c.deref-3.ensures.value) c.in_ok-order.ensures.within)

pub sums_of-requires : goal.sums_of-requires
sums_of-requires g c =
    let t = g.T.Terms.theta in
    let items = c.in_ok-items.items.items in
    let placed = placed_along c.tree.inside.items.items c.deref.result.now c.deref-2.result.now items c.in_ok-order.order.items c.deref-3.result.now c.deref-5.result.now c.in_ok-places.places.items
    c.deref.ensures.value c.deref-2.ensures.value c.deref-3.ensures.value c.deref-5.ensures.value c.in_ok-places.ensures c.in_ok-order.ensures.each_once c.in_ok-items.ensures in
    let tree = essential_tree t g.T.Terms.grid g.T.Terms.particles c.tree.inside.src c.tree.inside.dst in
    let same : IsPermutation tree items = subst (λ (es : List Entry). IsPermutation es items) c.tree.invariant (placed_permutation c.tree.inside.items.items items c.in_ok-places.places.items placed) in
    let few = essential_total c.lists_merge.ensures c.some_have_distinct_ids.ensures t g.T.Terms.grid g.T.Terms.particles c.tree.inside.src c.tree.inside.dst g.T.Terms.are_bodies in
    subst (λ (es : List Entry). (moment_together es).count ≤ 65536) (sym c.deref-6.ensures.value) (few_together tree items same few)

pub invariant_of-result : goal.invariant_of-result
invariant_of-result g c =
    let t = g.T.Terms.theta in
    let sent = c.tree.inside.items.items in
    let items = c.in_ok-items.items.items in
    let order = c.in_ok-order.order.items in
    let placed = placed_along sent c.deref.result.now c.deref-2.result.now items order c.deref-3.result.now c.deref-5.result.now c.in_ok-places.places.items
    c.deref.ensures.value c.deref-2.ensures.value c.deref-3.ensures.value c.deref-5.ensures.value c.in_ok-places.ensures c.in_ok-order.ensures.each_once c.in_ok-items.ensures in
    let tree = essential_tree t g.T.Terms.grid g.T.Terms.particles c.tree.inside.src c.tree.inside.dst in
    let same : IsPermutation tree items = subst (λ (es : List Entry). IsPermutation es items) c.tree.invariant (placed_permutation sent items c.in_ok-places.places.items placed) in
    let keyed = c.in_ok-keys.ensures.value ∙ ap (map item_key) c.deref-4.ensures.value in
    let by_order : All (HasItsKey sent) order = subst (λ (es : List Entry). All (HasItsKey es) order) c.deref.ensures.value c.in_ok-order.ensures.keyed in
    let moved = moved_along sent c.deref-2.result.now items order c.deref-3.result.now c.deref-2.ensures.value c.deref-3.ensures.value c.in_ok-items.ensures in
    record {
      placed = subst (λ (es : List Entry). ArePlaced es c.in_ok-places.places.items items) c.tree.invariant placed;
      same_items = same;
      few = short_together tree items same (essential_short c.lists_are_short.ensures t g.T.Terms.grid g.T.Terms.particles c.tree.inside.src c.tree.inside.dst g.T.Terms.are_bodies);
      keyed = keyed;
      fits = c.in_ok-keys.ensures.fits;
      ascending = rise_along order_key order c.in_ok-keys.keys.items (keyed ∙ keys_of_order sent items order moved by_order) c.in_ok-order.ensures.ascending;
      summed = c.in_ok-sums.ensures ∙ ap item_sums c.deref-6.ensures.value;
    }

pub returns-clause-sent : goal.returns-clause-sent
returns-clause-sent g c =
    let t = g.T.Terms.theta in
    let items = c.in_ok-items.items.items in
    let placed = placed_along c.tree.inside.items.items c.deref.result.now c.deref-2.result.now items c.in_ok-order.order.items c.deref-3.result.now c.deref-5.result.now c.in_ok-places.places.items
    c.deref.ensures.value c.deref-2.ensures.value c.deref-3.ensures.value c.deref-5.ensures.value c.in_ok-places.ensures c.in_ok-order.ensures.each_once c.in_ok-items.ensures in
    let tree = essential_tree t g.T.Terms.grid g.T.Terms.particles c.tree.inside.src c.tree.inside.dst in
    let same : IsPermutation tree items = subst (λ (es : List Entry). IsPermutation es items) c.tree.invariant (placed_permutation c.tree.inside.items.items items c.in_ok-places.places.items placed) in
    record { here = ap (λ (e : Essential). e.dst) c.tree.view_is; items = same }
