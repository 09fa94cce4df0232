use Rattle.std.proofs.Common.{◌≡◌, ◌^◌, ◌≤◌, List, length, map, sym, ◌∙◌, ap, subst, arith}
use Rattle.std.specs.List.{AllZip}
use Rattle.pf_model.specs.declared.entry.Entry.{Entry}
use Rattle.pf_model.specs.Particle.{Particle}
use Rattle.pf_model.specs.Particles.{HaveDistinctIds}
use Rattle.pf_model.specs.EssentialTree.{essential_tree}
use Rattle.morton_tree.specs.declared.group.Group.{Group}
use Rattle.morton_tree.specs.Tree.{IsInKeyOrder}
use Rattle.morton_tree.specs.Spans.{at_span}
use Rattle.group_lists.specs.declared.listed.Listed.{Listed}
use Rattle.group_lists.specs.Gathering.{Gathering, gathering_of, IsWhole, gathered_count}
use Rattle.group_lists.specs.Listing.{IsSource}
use Rattle.group_lists.specs.Indexed.{IsIndexOf, as_items, group_list, source_items}
use Rattle.group_lists.specs.Whole.{GroupList}
use Rattle.group_lists.proofs.FinishLemmas.{own_few, own_distinct, sources_kept, lists_whole}
use Rattle.group_lists.proofs.ElementLemmas.{map-map}
use Rattle.group_lists.proofs.GatherLemmas.{list_round, whole_partial, listed_each}
use Rattle.group_lists.proofs.gather.Gather.finish.Given as given
use Rattle.group_lists.proofs.gather.Gather.finish.Goals as goal

pub of_bodies-requires : goal.of_bodies-requires
of_bodies-requires g c =
    let bodies = c.self.inside.bodies.items in
    let value = sym c.deref.ensures.value in
    let js = g.T.Terms.particles in
    let grid = g.T.Terms.grid in
    record {
      few = subst (λ (own : List Particle). length own ≤ 65536) value (own_few grid js bodies c.self.inside.rank g.T.Terms.are_bodies.few c.self.invariant.0.own);
      ordered = subst IsInKeyOrder value c.self.invariant.1.ordered;
      distinct = subst HaveDistinctIds value (own_distinct c.distinct_ids_ignore_order.ensures c.some_have_distinct_ids.ensures grid js bodies c.self.inside.rank g.T.Terms.are_bodies.distinct c.self.invariant.0.own);
    }

-- the lists that are kept are those over all particles
lists_are : (g : given.Over) (c : goal.In_ok-own g) → map (λ l. l.entries.items) c.self.inside.listed.items ≡ map (list_round g.T.Terms.theta g.T.Terms.particles) (map (λ l. l.group) c.self.inside.listed.items)
lists_are g c =
    let t = g.T.Terms.theta in
    let js = g.T.Terms.particles in
    let small : c.self.inside.count ≤ 2 ^ 24 = (let counted = c.self.invariant.0.counted ∙ ap (gathered_count t g.T.Terms.grid js) c.self.view_is in let few = c.requires.few in omega arith) in
    let whole = subst (IsWhole g.T.Terms.grid) (sym c.self.view_is) c.requires.whole in
    c.self.invariant.0.kept small ∙ ap (λ (f : Group → List Entry). map f (map (λ l. l.group) c.self.inside.listed.items)) (whole_partial c.all_ranks_have_all.ensures t g.T.Terms.grid js (gathering_of c.self.inside.rank c.self.inside.bodies.items (map (λ l. l.group) c.self.inside.listed.items) c.self.inside.trees.items) g.T.Terms.is_division whole)

own_is : (g : given.Over) (c : goal.In_ok-own g) → c.in_ok-own.own.items ≡ c.self.inside.bodies.items
own_is g c = c.in_ok-own.ensures.items_if_clones_equal (λ x y h. h) ∙ c.deref-2.ensures.value

pub invariant_of-result : goal.invariant_of-result
invariant_of-result g c =
    let t = g.T.Terms.theta in
    let js = g.T.Terms.particles in
    let built = c.self.inside.bodies.items in
    let listed = c.self.inside.listed.items in
    let index = c.in_ok-index.index in
    lists_whole t g.T.Terms.grid js c.self.inside.rank built listed c.self.inside.trees.items c.in_ok-sources.sources.items c.in_ok-sources.ensures.each c.self.inside.theta c.self.invariant.1
    c.groups_are_served.ensures c.items_lie_by_place.ensures g.T.Terms.are_bodies g.T.Terms.is_division g.T.Terms.within_limits c.self.invariant.0.own c.self.invariant.0.of_own (lists_are g c)
    c.in_ok-own.own.items index (own_is g c) c.self.invariant.0.few
    (listed_each c.lists_are_short.ensures c.lists_hold_their_entries.ensures t js built listed g.T.Terms.are_bodies.distinct g.T.Terms.are_bodies.few c.self.invariant.0.of_own (lists_are g c))
    (subst (λ (js : List Particle). IsIndexOf (as_items js) index) c.deref.ensures.value c.in_ok-index.ensures)

pub returns-clause-bodies : goal.returns-clause-bodies
returns-clause-bodies g c =
    let listed = c.self.inside.listed.items in
    map-map (λ (l : GroupList). l.bodies) (group_list c.in_ok-own.own.items) listed
    ∙ ap (λ (own : List Particle). map (λ (l : Listed). at_span l.group.span own) listed) (own_is g c)
    ∙ sym (map-map (λ (h : Group). at_span h.span c.self.inside.bodies.items) (λ (l : Listed). l.group) listed)
    ∙ ap (λ (v : Gathering). map (λ h. at_span h.span v.own) v.groups) c.self.view_is

pub returns-clause-entries : goal.returns-clause-entries
returns-clause-entries g c =
    map-map (λ (l : GroupList). l.entries) (group_list c.in_ok-own.own.items) c.self.inside.listed.items
    ∙ lists_are g c ∙ ap (λ (v : Gathering). map (list_round g.T.Terms.theta g.T.Terms.particles) v.groups) c.self.view_is

pub returns-clause-spans : goal.returns-clause-spans
returns-clause-spans g c =
    let listed = c.self.inside.listed.items in
    map-map (λ (l : GroupList). l.span) (group_list c.in_ok-own.own.items) listed
    ∙ sym (map-map (λ (h : Group). h.span) (λ (l : Listed). l.group) listed) ∙ ap (λ (v : Gathering). map (λ h. h.span) v.groups) c.self.view_is

pub returns-clause-built : goal.returns-clause-built
returns-clause-built g c = ap (λ (v : Gathering). v.own) c.self.view_is

pub returns-clause-own : goal.returns-clause-own
returns-clause-own g c = own_is g c ∙ ap (λ (v : Gathering). v.own) c.self.view_is

pub returns-clause-sources : goal.returns-clause-sources
returns-clause-sources g c =
    let t = g.T.Terms.theta in
    let js = g.T.Terms.particles in
    subst (λ (v : Gathering). AllZip (λ src s. IsSource (essential_tree t g.T.Terms.grid js src v.rank) src s) v.absorbed (map source_items c.in_ok-sources.sources.items)) c.self.view_is
    (sources_kept t g.T.Terms.grid js c.self.inside.rank c.self.inside.bodies.items c.self.inside.listed.items c.self.inside.trees.items c.in_ok-sources.sources.items c.in_ok-sources.ensures.each c.self.inside.theta c.self.invariant.1)
