use Rattle.std.proofs.Common.{◌≡◌, ◌<◌, length, set, refl, ◌∙◌, ap, arith}
use Rattle.std.proofs.lemmas.Option.{slice_get_read}
use Rattle.group_lists.specs.declared.listed.Listed.{Listed}
use Rattle.group_lists.specs.Listing.{Listing, with_moment}
use Rattle.group_lists.specs.Indexed.{group_list}
use Rattle.group_lists.proofs.GatherLemmas.{place_within}
use Rattle.group_lists.proofs.ListsLemmas.{IsChanged, place_inside, group_read, whole_changed, groups_changed, moment_fits, moment_has_members}
use Rattle.group_lists.proofs.lists.Lists.set_moment.Goals as goal

pub index-requires : goal.index-requires
index-requires c =
    let own = c.self.inside.own.items in
    let listed = c.self.inside.listed.items in
    let groups = ap (λ (s : Listing). s.groups) c.self.view_is in
    let x = c.index_mut-listed.result.now in
    let within : c.args.group < length listed = place_within (group_list own) listed c.args.self.now.groups c.args.group groups c.requires.group in
    let inside = place_inside own listed c.args.self.now.groups c.args.group c.args.place x groups within c.index_mut-listed.ensures.value c.requires.place in
    let whole = x.entries.ok in
    omega arith

pub index_mut-requires : goal.index_mut-requires
index_mut-requires c =
    let own = c.self.inside.own.items in
    let listed = c.self.inside.listed.items in
    let groups = ap (λ (s : Listing). s.groups) c.self.view_is in
    let x = c.index_mut-listed.result.now in
    let within : c.args.group < length listed = place_within (group_list own) listed c.args.self.now.groups c.args.group groups c.requires.group in
    let inside = place_inside own listed c.args.self.now.groups c.args.group c.args.place x groups within c.index_mut-listed.ensures.value c.requires.place in
    let whole = x.entries.ok in
    omega arith

-- the one entry has another moment
changed : (c : goal.After-self-1) → (after : Listed) → after.group ≡ c.index_mut-listed.result.now.group → after.entries.items ≡ set c.index_mut-listed.result.now.entries.items c.args.place c.with_moment.result →
    IsChanged c.self.inside.listed.items c.args.group c.args.place c.index_mut-listed.result.now after c.index.result.now (with_moment c.args.moment c.index.result.now)
changed c after group entries =
    let own = c.self.inside.own.items in
    let listed = c.self.inside.listed.items in
    let groups = ap (λ (s : Listing). s.groups) c.self.view_is in
    let x = c.index_mut-listed.result.now in
    let within : c.args.group < length listed = place_within (group_list own) listed c.args.self.now.groups c.args.group groups c.requires.group in
    record {
      within = within;
      at = c.index_mut-listed.ensures.value;
      group = group;
      inside = place_inside own listed c.args.self.now.groups c.args.group c.args.place x groups within c.index_mut-listed.ensures.value c.requires.place;
      read = c.index.ensures;
      entries = entries ∙ ap (set x.entries.items c.args.place) c.with_moment.ensures;
    }

pub invariant_of-self : goal.invariant_of-self
invariant_of-self c =
    let e = c.index.result.now in
    let made = changed c _ refl refl in
    whole_changed c.self.inside.built.items c.self.inside.own.items c.self.inside.index c.self.inside.listed.items c.self.inside.sources.items c.args.group c.args.place c.index_mut-listed.result.now _ e (with_moment c.args.moment e) c.self.invariant made
    (moment_has_members c.args.moment e (c.requires.count e (group_list c.self.inside.own.items c.index_mut-listed.result.now)
    (group_read c.self.inside.own.items c.self.inside.listed.items c.args.self.now.groups c.args.group c.index_mut-listed.result.now (ap (λ (s : Listing). s.groups) c.self.view_is) made.within made.at)
    (slice_get_read c.index_mut-listed.result.now.entries.items _ c.args.place e refl made.inside made.read))) (λ items fit. moment_fits c.args.moment e items fit)

pub returns : goal.returns
returns c = λ e g at_g at_e.
    let view = c.self.view_is in
    let groups = groups_changed c.self.inside.own.items c.self.inside.listed.items c.args.self.now.groups c.args.group c.args.place c.index_mut-listed.result.now _ c.index.result.now e (with_moment c.args.moment) g
    (ap (λ (s : Listing). s.groups) view) (changed c _ refl refl) at_g at_e in
    λ i. record { built = (view i).built; own = (view i).own; groups = groups i; sources = (view i).sources }
