use Rattle.std.proofs.Common.{◌≡◌, ◌+◌, ◌-◌, ◌<◌, ℕ, List, length, map, take, drop, slice_get, Some, sym, ◌∙◌, ap, arith}
use Rattle.pf_model.specs.Particle.{Particle}
use Rattle.morton_tree.specs.Spans.{at_span}
use Rattle.group_lists.specs.declared.listed.Listed.{Listed}
use Rattle.group_lists.specs.Indexed.{group_list}
use Rattle.group_lists.specs.Listing.{Listing}
use Rattle.group_lists.specs.Whole.{GroupList}
use Rattle.group_lists.proofs.ElementLemmas.{map-map}
use Rattle.group_lists.proofs.GatherLemmas.{read_through, place_within}
use Rattle.group_lists.proofs.lists.Lists.group.Goals as goal

pub returns : goal.returns
returns c =
    let listed = c.self.inside.listed.items in
    let own = c.self.inside.own.items in
    let groups_are = ap (λ (s : Listing). s.groups) c.self.view_is in
    let x = c.index.result.now in
    let s = x.group.span in
    let within : c.args.n < length listed = place_within (group_list own) listed c.args.self.now.groups c.args.n groups_are c.requires in
    let groups : map (λ l. l.bodies) c.args.self.now.groups ≡ map (λ l. at_span l.group.span own) listed =
    ap (map (λ (l : GroupList). l.bodies)) (sym groups_are) ∙ map-map (λ (l : GroupList). l.bodies) (group_list own) listed in
    let long : s.len ≡ s.first + s.len - s.first = omega arith in
    ap (λ (gs : List (List Particle)). slice_get gs c.args.n) groups ∙ read_through (λ (l : Listed). at_span l.group.span own) listed c.args.n x within c.index.ensures
    ∙ ap (λ (n : ℕ). Some (take n (drop s.first own))) long ∙ ap (λ (js : List Particle). Some (take (s.first + s.len - s.first) (drop s.first js))) (sym c.deref.ensures.value)
