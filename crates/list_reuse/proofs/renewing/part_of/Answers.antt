use Rattle.std.proofs.Common.{◌<◌, ℕ, List, length, sym, ◌∙◌, ap, subst, arith, drop}
use Rattle.std.specs.List.{All}
use Rattle.std.proofs.lemmas.List.Elements.{All-take, All-drop}
use Rattle.group_lists.specs.Listing.{SourceItems}
use Rattle.list_reuse.specs.Renewing.{values_at}
use Rattle.pf_model.specs.Sufficiency.{moment_together}
use Rattle.list_reuse.proofs.RenewLemmas.{some_at, field_at, entry_at, built_at, parcel_there, values_are, places_within, source_sum, few_of_source}
use Rattle.list_reuse.proofs.renewing.part_of.Goals as goal

pub values_from-values-requires : goal.values_from-values-requires
values_from-values-requires g c =
    parcel_there c.laws.ensures g.m c.args.lists.now c.args.parcels.now c.requires.0 c.args.source c.source_rank.result c.source_rank.ensures

pub at_span-requires : goal.at_span-requires
at_span-requires g c =
    let ls = c.args.lists.now in
    let l = some_at ls.groups c.args.group c.requires.1.1.0 in
    let e = built_at c.laws.ensures g.m ls c.args.parcels.now c.requires.0 c.args.group c.args.place l.0 l.1 (c.requires.1.1.1 l.0 l.1) in
    let d = entry_at c.laws.ensures g.m ls c.args.parcels.now c.requires.0 c.args.group c.args.place l.0 e.0 l.1 e.1 in
    let s = some_at ls.sources c.args.source c.requires.1.0 in
    let inside = (c.items_in-span.ensures.exactly s.0 s.1 d.0 l.0 l.1 d.1).inside in
    let long = c.sent_places.ensures.items s.0 s.1 in
    omega arith

pub moment_of_values-requires-clause-within : goal.moment_of_values-requires-clause-within
moment_of_values-requires-clause-within g c =
    let ls = c.args.lists.now in
    let s = some_at ls.sources c.args.source c.requires.1.0 in
    let r = c.values_from-values.ensures in
    let values = c.values_from-values.result.now in
    let is = values_are c.laws.ensures g.m ls c.args.parcels.now c.requires.0 c.args.source c.source_rank.result s.0 r.0 values s.1 c.source_rank.ensures r.1 r.2 r.3 in
    let within = places_within c.laws.ensures g.m ls c.args.parcels.now c.requires.0 c.args.source s.0 values s.1 is in
    let at = field_at (λ (v : SourceItems). v.places) ls.sources c.args.source s.0 c.sent_places.result.now s.1 c.sent_places.ensures.value in
    let P : ℕ → _ = λ k. k < length values in
    subst (All P) (sym c.at_span.ensures)
    (All-take P c.items_in-span.result.len (drop c.items_in-span.result.first c.sent_places.result.now)
    (All-drop P c.items_in-span.result.first c.sent_places.result.now (subst (All P) (sym at) within)))

pub moment_of_values-requires-clause-few : goal.moment_of_values-requires-clause-few
moment_of_values-requires-clause-few g c v =
    let ls = c.args.lists.now in
    let l = some_at ls.groups c.args.group c.requires.1.1.0 in
    let e = built_at c.laws.ensures g.m ls c.args.parcels.now c.requires.0 c.args.group c.args.place l.0 l.1 (c.requires.1.1.1 l.0 l.1) in
    let d = entry_at c.laws.ensures g.m ls c.args.parcels.now c.requires.0 c.args.group c.args.place l.0 e.0 l.1 e.1 in
    let s = some_at ls.sources c.args.source c.requires.1.0 in
    let r = c.values_from-values.ensures in
    let values = c.values_from-values.result.now in
    let is = values_are c.laws.ensures g.m ls c.args.parcels.now c.requires.0 c.args.source c.source_rank.result s.0 r.0 values s.1 c.source_rank.ensures r.1 r.2 r.3 in
    let at = field_at (λ (x : SourceItems). x.places) ls.sources c.args.source s.0 c.sent_places.result.now s.1 c.sent_places.ensures.value in
    let lie = c.items_in-span.ensures.items s.0 s.1 d.0 l.0 l.1 d.1 in
    few_of_source c.laws.ensures g.m ls c.args.parcels.now c.requires.0 c.args.group l.0 e.0 s.0.src (moment_together (values_at values v c.at_span.result.now)) l.1
    (ap (λ (ks : List ℕ). moment_together (values_at values v ks)) c.at_span.ensures
    ∙ source_sum c.laws.ensures g.m ls c.args.parcels.now c.requires.0 c.args.group c.args.place c.args.source l.0 e.0 d.0 s.0 values c.sent_places.result.now c.items_in-span.result l.1 e.1 d.1 d.2 s.1 is at lie v)

pub returns : goal.returns
returns g c l e hl he s hs =
    let ls = c.args.lists.now in
    let d = entry_at c.laws.ensures g.m ls c.args.parcels.now c.requires.0 c.args.group c.args.place l e hl he in
    let r = c.values_from-values.ensures in
    let values = c.values_from-values.result.now in
    let is = values_are c.laws.ensures g.m ls c.args.parcels.now c.requires.0 c.args.source c.source_rank.result s r.0 values hs c.source_rank.ensures r.1 r.2 r.3 in
    let at = field_at (λ (x : SourceItems). x.places) ls.sources c.args.source s c.sent_places.result.now hs c.sent_places.ensures.value in
    let lie = c.items_in-span.ensures.items s hs d.0 l hl d.1 in
    c.moment_of_values.ensures e
    ∙ ap (λ (ks : List ℕ). moment_together (values_at values e ks)) c.at_span.ensures
    ∙ source_sum c.laws.ensures g.m ls c.args.parcels.now c.requires.0 c.args.group c.args.place c.args.source l e d.0 s values c.sent_places.result.now c.items_in-span.result hl he d.1 d.2 hs is at lie e
