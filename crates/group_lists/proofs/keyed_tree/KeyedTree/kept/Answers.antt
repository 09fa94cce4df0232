use Rattle.std.proofs.Common.{◌≡◌, ℕ, ◌≤◌, List, length, map, refl, sym, ◌∙◌, ap, subst}
use Rattle.std.specs.List.{range_with_len}
use Rattle.std.specs.List.Sorted.{IsNonDecreasing, IsPermutation}
use Rattle.std.proofs.lemmas.List.Sorted.{length_permutation}
use Rattle.pf_model.specs.declared.entry.Entry.{Entry}
use Rattle.pf_model.specs.EssentialTree.{Essential, essential_tree}
use Rattle.group_lists.specs.Keyed.{item_key}
use Rattle.group_lists.specs.Indexed.{HaveDistinctPlaces, IsIndexOf, IsKeptOf}
use Rattle.group_lists.proofs.PlacedLemmas.{places_distinct, essential_ordered}
use Rattle.group_lists.proofs.keyed_tree.KeyedTree.kept.Goals as goal

pub of_items-requires : goal.of_items-requires
of_items-requires g c =
    let t = g.T.Terms.theta in
    let js = g.T.Terms.particles in
    let items = c.self.inside.items.items in
    let sent = essential_tree t g.T.Terms.grid js c.self.inside.src c.self.inside.dst in
    let order = essential_ordered c.lists_hold_their_entries.ensures c.some_have_distinct_ids.ensures t g.T.Terms.grid js c.self.inside.src c.self.inside.dst g.T.Terms.are_bodies in
    let value = sym c.deref.ensures.value in
    record {
      few = subst (λ (es : List Entry). length es ≤ 65536) value c.self.invariant.few;
      keyed = c.self.invariant.keyed ∙ ap (map item_key) value;
      ascending = c.self.invariant.ascending;
      distinct = subst HaveDistinctPlaces value (places_distinct sent items order c.self.invariant.same_items);
    }

pub returns : goal.returns
returns g c =
    let t = g.T.Terms.theta in
    let js = g.T.Terms.particles in
    let items = c.self.inside.items.items in
    let sent = essential_tree t g.T.Terms.grid js c.self.inside.src c.self.inside.dst in
    let long : length sent ≡ length items = sym (length_permutation sent items c.self.invariant.same_items) in
    subst (λ (tree : Essential). IsKeptOf t g.T.Terms.grid js tree (record { src = c.self.inside.src; items = c.self.inside.items; places = c.self.inside.places; index = c.in_ok-index.index })) c.self.view_is (record {
      kept = record {
        each_once = subst (λ (n : ℕ). IsPermutation (range_with_len 0 n) c.self.inside.places.items) long c.self.invariant.placed.each_once;
        found = subst (λ (es : List Entry). IsIndexOf es c.in_ok-index.index) c.deref.ensures.value c.in_ok-index.ensures;
      };
      source = record {
        rank = refl;
        placed = c.self.invariant.placed;
        in_key_order = subst IsNonDecreasing c.self.invariant.keyed c.self.invariant.ascending;
      };
      same_items = refl;
    })
