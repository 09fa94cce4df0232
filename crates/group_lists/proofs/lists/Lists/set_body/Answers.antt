use Rattle.std.proofs.Common.{◌≡◌, ◌<◌, length, set, refl, ap, arith}
use Rattle.pf_model.specs.declared.entry.Entry.TheVariants.{One}
use Rattle.group_lists.specs.declared.listed.Listed.{Listed}
use Rattle.group_lists.specs.Listing.{Listing}
use Rattle.group_lists.specs.Indexed.{group_list}
use Rattle.group_lists.proofs.GatherLemmas.{place_within}
use Rattle.group_lists.proofs.ListsLemmas.{IsChanged, place_inside, whole_changed, groups_changed}
use Rattle.group_lists.proofs.lists.Lists.set_body.Goals as goal

pub index_mut-requires : goal.index_mut-requires
index_mut-requires c =
    let own = c.self.inside.own.items in
    let listed = c.self.inside.listed.items in
    let groups = ap (λ (s : Listing). s.groups) c.self.view_is in
    let x = c.index_mut-listed.result.now in
    let within : c.args.group < length listed = place_within (group_list own) listed c.args.self.now.groups c.args.group groups c.requires.group in
    let inside = place_inside own listed c.args.self.now.groups c.args.group c.args.place x groups within c.index_mut-listed.ensures.value c.requires.place in
    let whole = x.entries.ok in
    omega arith

-- the one entry has another body
changed : (c : goal.After-self-1) → (after : Listed) → after.group ≡ c.index_mut-listed.result.now.group → after.entries.items ≡ set c.index_mut-listed.result.now.entries.items c.args.place (One c.args.body) →
    IsChanged c.self.inside.listed.items c.args.group c.args.place c.index_mut-listed.result.now after c.index_mut.result.now (One c.args.body)
changed c after group entries =
    let own = c.self.inside.own.items in
    let listed = c.self.inside.listed.items in
    let groups = ap (λ (s : Listing). s.groups) c.self.view_is in
    let x = c.index_mut-listed.result.now in
    let within : c.args.group < length listed = place_within (group_list own) listed c.args.self.now.groups c.args.group groups c.requires.group in
    record {
      within = within;
      at = c.index_mut-listed.ensures.value;
      group = group;
      inside = place_inside own listed c.args.self.now.groups c.args.group c.args.place x groups within c.index_mut-listed.ensures.value c.requires.place;
      read = c.index_mut.ensures.value;
      entries = entries;
    }

pub invariant_of-self : goal.invariant_of-self
invariant_of-self c =
    whole_changed c.self.inside.built.items c.self.inside.own.items c.self.inside.index c.self.inside.listed.items c.self.inside.sources.items c.args.group c.args.place c.index_mut-listed.result.now _ c.index_mut.result.now (One c.args.body) c.self.invariant
    (changed c _ refl refl) (λ some. tt) (λ items fit f there. refl)

pub returns : goal.returns
returns c = λ e g at_g at_e.
    let view = c.self.view_is in
    let groups = groups_changed c.self.inside.own.items c.self.inside.listed.items c.args.self.now.groups c.args.group c.args.place c.index_mut-listed.result.now _ c.index_mut.result.now e (λ _. One c.args.body) g
    (ap (λ (s : Listing). s.groups) view) (changed c _ refl refl) at_g at_e in
    λ i. record { built = (view i).built; own = (view i).own; groups = groups i; sources = (view i).sources }
