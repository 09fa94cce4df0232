use Rattle.std.proofs.Common.{◌≡◌, ◌<◌, List, length, sym, ap, subst, arith}
use Rattle.pf_model.specs.declared.entry.Entry.{Entry}
use Rattle.pf_model.specs.Particle.{Particle}
use Rattle.group_lists.specs.Listing.{Listing, IsSpanOf, body_lies_in}
use Rattle.group_lists.specs.Indexed.{group_list, as_items}
use Rattle.group_lists.proofs.GatherLemmas.{place_within}
use Rattle.group_lists.proofs.ListsLemmas.{entry_read, place_inside, own_by_place, span_of_own}
use Rattle.group_lists.proofs.lists.Lists.own_in.Goals as goal

pub index-entry-requires : goal.index-entry-requires
index-entry-requires c =
    let own = c.self.inside.own.items in
    let listed = c.self.inside.listed.items in
    let groups = ap (λ (s : Listing). s.groups) c.self.view_is in
    let x = c.index.result.now in
    let within : c.args.group < length listed = place_within (group_list own) listed c.args.self.now.groups c.args.group groups c.requires.group in
    let inside = place_inside own listed c.args.self.now.groups c.args.group c.args.place x groups within c.index.ensures c.requires.place in
    let whole = x.entries.ok in
    omega arith

pub returns-clause-exactly : goal.returns-clause-exactly
returns-clause-exactly c = λ e g at_g at_e.
    let own = c.self.inside.own.items in
    let listed = c.self.inside.listed.items in
    let groups = ap (λ (s : Listing). s.groups) c.self.view_is in
    let x = c.index.result.now in
    let entry : Entry = c.index-entry.result.now in
    let within : c.args.group < length listed = place_within (group_list own) listed c.args.self.now.groups c.args.group groups c.requires.group in
    let inside = place_inside own listed c.args.self.now.groups c.args.group c.args.place x groups within c.index.ensures c.requires.place in
    let same : entry ≡ e = entry_read own listed c.args.self.now.groups c.args.group c.args.place x entry e g groups within c.index.ensures inside c.index-entry.ensures at_g at_e in
    let built = c.self.inside.built.items in
    let span : IsSpanOf (body_lies_in entry) built c.span_in.result =
    span_of_own built entry c.span_in.result (c.span_in.ensures (as_items built) c.self.invariant.found (own_by_place built entry)) in
    subst (λ (js : List Particle). IsSpanOf (body_lies_in e) js c.span_in.result) (ap (λ (s : Listing). s.built) c.self.view_is)
    (subst (λ (f : Entry). IsSpanOf (body_lies_in f) built c.span_in.result) same span)

pub returns-clause-bodies : goal.returns-clause-bodies
returns-clause-bodies c = λ e g at_g at_e.
    let span = returns-clause-exactly c e g at_g at_e in
    sym (c.tests_keep_spans.ensures (body_lies_in e) c.args.self.now.built c.span_in.result.first c.span_in.result.len span.inside span.exactly)
