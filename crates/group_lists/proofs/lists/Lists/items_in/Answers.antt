use Rattle.std.proofs.Common.{◌≡◌, ◌<◌, List, length, slice_get, sym, ◌∙◌, ap, subst, arith}
use Rattle.pf_model.specs.declared.entry.Entry.{Entry}
use Rattle.pf_model.specs.Sufficiency.{lies_in}
use Rattle.group_lists.specs.declared.kept_source.KeptSource.{KeptSource}
use Rattle.group_lists.specs.Listing.{Listing, SourceItems, IsSpanOf}
use Rattle.group_lists.specs.Indexed.{group_list, source_items}
use Rattle.group_lists.proofs.GatherLemmas.{place_within, read_through}
use Rattle.group_lists.proofs.ListsLemmas.{entry_read, place_inside, there_at, same_some}
use Rattle.group_lists.proofs.lists.Lists.items_in.Goals as goal

pub index-entry-requires : goal.index-entry-requires
index-entry-requires c =
    let own = c.self.inside.own.items in
    let listed = c.self.inside.listed.items in
    let groups = ap (λ (s : Listing). s.groups) c.self.view_is in
    let x = c.index.result.now in
    let within : c.args.group < length listed = place_within (group_list own) listed c.args.self.now.groups c.args.group groups c.requires.group in
    let inside = place_inside own listed c.args.self.now.groups c.args.group c.args.place x groups within c.index.ensures c.requires.place in
    let whole = x.entries.ok in
    omega arith

pub returns-clause-exactly : goal.returns-clause-exactly
returns-clause-exactly c = λ r at_r e g at_g at_e.
    let own = c.self.inside.own.items in
    let listed = c.self.inside.listed.items in
    let sources = c.self.inside.sources.items in
    let groups = ap (λ (s : Listing). s.groups) c.self.view_is in
    let are = ap (λ (s : Listing). s.sources) c.self.view_is in
    let x = c.index.result.now in
    let s : KeptSource = c.index-2.result.now in
    let entry : Entry = c.index-entry.result.now in
    let within : c.args.group < length listed = place_within (group_list own) listed c.args.self.now.groups c.args.group groups c.requires.group in
    let inside = place_inside own listed c.args.self.now.groups c.args.group c.args.place x groups within c.index.ensures c.requires.place in
    let same : entry ≡ e = entry_read own listed c.args.self.now.groups c.args.group c.args.place x entry e g groups within c.index.ensures inside c.index-entry.ensures at_g at_e in
    let within_sources : c.args.source < length sources = place_within source_items sources c.args.self.now.sources c.args.source are c.requires.source in
    let source : source_items s ≡ r =
    same_some _ _ (sym (ap (λ (ss : List SourceItems). slice_get ss c.args.source) (sym are) ∙ read_through source_items sources c.args.source s within_sources c.index-2.ensures) ∙ at_r) in
    let there = there_at sources c.args.source s within_sources c.index-2.ensures in
    let fits = c.self.invariant.fit x s (there_at listed c.args.group x within c.index.ensures) there entry (there_at x.entries.items c.args.place entry inside c.index-entry.ensures) in
    let span : IsSpanOf (λ f. lies_in f entry) s.items.items c.span_in.result = c.span_in.ensures s.items.items (c.self.invariant.kept s there).found fits in
    subst (λ (t : SourceItems). IsSpanOf (λ f. lies_in f e) t.items c.span_in.result) source
    (subst (λ (d : Entry). IsSpanOf (λ f. lies_in f d) s.items.items c.span_in.result) same span)

pub returns-clause-items : goal.returns-clause-items
returns-clause-items c = λ r at_r e g at_g at_e.
    let span = returns-clause-exactly c r at_r e g at_g at_e in
    sym (c.tests_keep_spans.ensures (λ (f : Entry). lies_in f e) r.items c.span_in.result.first c.span_in.result.len span.inside span.exactly)
