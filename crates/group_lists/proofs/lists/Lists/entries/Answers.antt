use Rattle.std.proofs.Common.{◌≡◌, ◌<◌, ◌≤◌, List, length, map, slice_get, Some, sym, ◌∙◌, ap, subst}
use Rattle.std.specs.List.{All}
use Rattle.pf_model.specs.declared.entry.Entry.{Entry}
use Rattle.group_lists.specs.declared.listed.Listed.{Listed}
use Rattle.group_lists.specs.Indexed.{group_list}
use Rattle.group_lists.specs.Listing.{Listing}
use Rattle.group_lists.specs.Whole.{GroupList, HasMembers, IsListed}
use Rattle.group_lists.proofs.ElementLemmas.{map-map}
use Rattle.group_lists.proofs.GatherLemmas.{read_through, place_within}
use Rattle.group_lists.proofs.ListsLemmas.{there_at}
use Rattle.group_lists.proofs.lists.Lists.entries.Goals as goal

pub returns-clause-value : goal.returns-clause-value
returns-clause-value c =
    let listed = c.self.inside.listed.items in
    let groups = ap (λ (s : Listing). s.groups) c.self.view_is in
    let x = c.index.result.now in
    let within : c.args.group < length listed = place_within (group_list c.self.inside.own.items) listed c.args.self.now.groups c.args.group groups c.requires in
    let lists : map (λ l. l.entries) c.args.self.now.groups ≡ map (λ l. l.entries.items) listed =
    ap (map (λ (l : GroupList). l.entries)) (sym groups) ∙ map-map (λ (l : GroupList). l.entries) (group_list c.self.inside.own.items) listed in
    ap (λ (es : List (List Entry)). slice_get es c.args.group) lists ∙ read_through (λ (l : Listed). l.entries.items) listed c.args.group x within c.index.ensures ∙ ap Some (sym c.deref.ensures.value)

-- what the list keeps
kept : (c : goal.After-deref) → IsListed (length c.self.inside.built.items) c.index.result.now.group.span c.index.result.now.entries.items
kept c =
    let listed = c.self.inside.listed.items in
    let groups = ap (λ (s : Listing). s.groups) c.self.view_is in
    let within : c.args.group < length listed = place_within (group_list c.self.inside.own.items) listed c.args.self.now.groups c.args.group groups c.requires in
    c.self.invariant.each c.index.result.now (there_at listed c.args.group c.index.result.now within c.index.ensures)

pub returns-clause-few : goal.returns-clause-few
returns-clause-few c = subst (λ (es : List Entry). length es ≤ 65536) (sym c.deref.ensures.value) (kept c).few

pub returns-clause-some : goal.returns-clause-some
returns-clause-some c = subst (All HasMembers) (sym c.deref.ensures.value) (kept c).some
