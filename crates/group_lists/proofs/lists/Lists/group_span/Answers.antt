use Rattle.std.proofs.Common.{◌≡◌, ◌<◌, List, length, map, slice_get, sym, ◌∙◌, ap, arith}
use Rattle.morton_tree.specs.declared.span.Span.{Span}
use Rattle.group_lists.specs.declared.listed.Listed.{Listed}
use Rattle.group_lists.specs.Indexed.{group_list}
use Rattle.group_lists.specs.Listing.{Listing}
use Rattle.group_lists.specs.Whole.{GroupList}
use Rattle.group_lists.proofs.ElementLemmas.{map-map}
use Rattle.group_lists.proofs.GatherLemmas.{read_through, place_within}
use Rattle.group_lists.proofs.ListsLemmas.{there_at}
use Rattle.group_lists.proofs.lists.Lists.group_span.Goals as goal

pub returns-clause-value : goal.returns-clause-value
returns-clause-value c =
    let listed = c.self.inside.listed.items in
    let groups = ap (λ (s : Listing). s.groups) c.self.view_is in
    let x = c.index.result.now in
    let within : c.args.group < length listed = place_within (group_list c.self.inside.own.items) listed c.args.self.now.groups c.args.group groups c.requires in
    let spans : map (λ l. l.span) c.args.self.now.groups ≡ map (λ l. l.group.span) listed =
    ap (map (λ (l : GroupList). l.span)) (sym groups) ∙ map-map (λ (l : GroupList). l.span) (group_list c.self.inside.own.items) listed in
    ap (λ (ss : List Span). slice_get ss c.args.group) spans ∙ read_through (λ (l : Listed). l.group.span) listed c.args.group x within c.index.ensures

pub returns-clause-inside : goal.returns-clause-inside
returns-clause-inside c =
    let listed = c.self.inside.listed.items in
    let groups = ap (λ (s : Listing). s.groups) c.self.view_is in
    let built = ap (λ (s : Listing). length s.built) c.self.view_is in
    let x = c.index.result.now in
    let within : c.args.group < length listed = place_within (group_list c.self.inside.own.items) listed c.args.self.now.groups c.args.group groups c.requires in
    let inside = (c.self.invariant.each x (there_at listed c.args.group x within c.index.ensures)).inside in
    omega arith
