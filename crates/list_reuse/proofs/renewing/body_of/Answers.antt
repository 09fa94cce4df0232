use Rattle.std.proofs.Common.{◌≡◌, ◌<◌, ℕ, List, length, get_or, sym, ◌∙◌, ap, subst, arith, Some}
use Rattle.pf_model.specs.declared.entry.Entry.{Entry}
use Rattle.pf_model.specs.declared.entry.Entry.TheVariants.{Cell, One}
use Rattle.pf_geom.specs.Octant.{Octant}
use Rattle.pf_model.specs.Totals.{Totals}
use Rattle.pf_model.specs.Particle.{Particle}
use Rattle.pf_model.specs.Reuse.{as_in}
use Rattle.group_lists.specs.Listing.{SourceItems}
use Rattle.list_reuse.specs.Renewing.{rank_members, IsSameEntry}
use Rattle.list_reuse.proofs.RenewLemmas.{some_at, field_at, entry_at, built_at, parcel_there, values_are, places_within, source_body, source_without}
use Rattle.list_reuse.proofs.renewing.body_of.Goals as goal

same_one : (p q : Particle) → One p ≡ One q → p ≡ q
same_one p q e = cc

never_one : (o : Octant) (n : Totals) (p : Particle) → Cell o n ≡ One p → ⊥
never_one o n p e = cc

pub values_from-values-requires : goal.values_from-values-requires
values_from-values-requires g c =
    parcel_there c.laws.ensures g.m c.args.lists.now c.args.parcels.now c.requires.0 c.args.source c.source_rank.result c.source_rank.ensures

pub bounds-places-span : goal.bounds-places-span
bounds-places-span g c =
    let ls = c.args.lists.now in
    let l = some_at ls.groups c.args.group c.requires.1.1.0 in
    let e = built_at c.laws.ensures g.m ls c.args.parcels.now c.requires.0 c.args.group c.args.place l.0 l.1 (c.requires.1.1.1 l.0 l.1) in
    let d = entry_at c.laws.ensures g.m ls c.args.parcels.now c.requires.0 c.args.group c.args.place l.0 e.0 l.1 e.1 in
    let s = some_at ls.sources c.args.source c.requires.1.0 in
    let inside = (c.items_in-span.ensures.exactly s.0 s.1 d.0 l.0 l.1 d.1).inside in
    let long = c.sent_places-places.ensures.items s.0 s.1 in
    let some = c.if-span-eq0.false in
    omega arith

pub bounds-values-place_sent : goal.bounds-values-place_sent
bounds-values-place_sent g c =
    let ls = c.args.lists.now in
    let l = some_at ls.groups c.args.group c.requires.1.1.0 in
    let e = built_at c.laws.ensures g.m ls c.args.parcels.now c.requires.0 c.args.group c.args.place l.0 l.1 (c.requires.1.1.1 l.0 l.1) in
    let d = entry_at c.laws.ensures g.m ls c.args.parcels.now c.requires.0 c.args.group c.args.place l.0 e.0 l.1 e.1 in
    let s = some_at ls.sources c.args.source c.requires.1.0 in
    let r = c.values_from-values.ensures in
    let values = c.values_from-values.result.now in
    let is = values_are c.laws.ensures g.m ls c.args.parcels.now c.requires.0 c.args.source c.source_rank.result s.0 r.0 values s.1 c.source_rank.ensures r.1 r.2 r.3 in
    let at = field_at (λ (x : SourceItems). x.places) ls.sources c.args.source s.0 c.sent_places-places.result.now s.1 c.sent_places-places.ensures.value in
    let within = places_within c.laws.ensures g.m ls c.args.parcels.now c.requires.0 c.args.source s.0 values s.1 is in
    let inside = (c.items_in-span.ensures.exactly s.0 s.1 d.0 l.0 l.1 d.1).inside in
    let long = c.sent_places-places.ensures.items s.0 s.1 in
    let some = c.if-span-eq0.false in
    let first : c.items_in-span.result.first < length c.sent_places-places.result.now = omega arith in
    let below = within c.items_in-span.result.first 0 (subst (λ (ks : List ℕ). c.items_in-span.result.first < length ks) at first) in
    subst (λ (ks : List ℕ). get_or ks c.items_in-span.result.first 0 < length values) (sym at) below

pub returns-then-span-eq0 : goal.returns-then-span-eq0
returns-then-span-eq0 g c l e hl he s hs p one =
    let ls = c.args.lists.now in
    let d = entry_at c.laws.ensures g.m ls c.args.parcels.now c.requires.0 c.args.group c.args.place l e hl he in
    ap (λ (f : Entry). rank_members g.m ls.built l f s.src) one
    ∙ source_without c.laws.ensures g.m ls c.args.parcels.now c.requires.0 c.args.group c.args.place c.args.source l p d.0 s c.items_in-span.result hl
    (he ∙ ap Some one) (subst (λ (f : Entry). IsSameEntry f d.0) one d.2) hs c.if-span-eq0.true (c.items_in-span.ensures.items s hs d.0 l hl d.1)

pub returns-in-One : goal.returns-in-One
returns-in-One g c l e hl he s hs p one =
    let ls = c.args.lists.now in
    let d = entry_at c.laws.ensures g.m ls c.args.parcels.now c.requires.0 c.args.group c.args.place l e hl he in
    let r = c.values_from-values.ensures in
    let values = c.values_from-values.result.now in
    let is = values_are c.laws.ensures g.m ls c.args.parcels.now c.requires.0 c.args.source c.source_rank.result s r.0 values hs c.source_rank.ensures r.1 r.2 r.3 in
    let at = field_at (λ (x : SourceItems). x.places) ls.sources c.args.source s c.sent_places-places.result.now hs c.sent_places-places.ensures.value in
    let inside = (c.items_in-span.ensures.exactly s hs d.0 l hl d.1).inside in
    let some = c.if-span-eq0.false in
    let value = source_body c.laws.ensures g.m ls c.args.parcels.now c.requires.0 c.args.group c.args.place c.args.source l p d.0 s values c.sent_places-places.result.now c.items_in-span.result c.index-values-place_sent.result hl
    (he ∙ ap Some one) (subst (λ (f : Entry). IsSameEntry f d.0) one d.2) hs is at (omega arith) inside (c.items_in-span.ensures.items s hs d.0 l hl d.1) c.index-values-place_sent.is in
    same_one c.in-One.body (as_in g.m.now p) (sym c.in-One.is ∙ value)

pub returns-in-Cell : goal.returns-in-Cell
returns-in-Cell g c l e hl he s hs p one =
    let ls = c.args.lists.now in
    let d = entry_at c.laws.ensures g.m ls c.args.parcels.now c.requires.0 c.args.group c.args.place l e hl he in
    let r = c.values_from-values.ensures in
    let values = c.values_from-values.result.now in
    let is = values_are c.laws.ensures g.m ls c.args.parcels.now c.requires.0 c.args.source c.source_rank.result s r.0 values hs c.source_rank.ensures r.1 r.2 r.3 in
    let at = field_at (λ (x : SourceItems). x.places) ls.sources c.args.source s c.sent_places-places.result.now hs c.sent_places-places.ensures.value in
    let inside = (c.items_in-span.ensures.exactly s hs d.0 l hl d.1).inside in
    let some = c.if-span-eq0.false in
    let value = source_body c.laws.ensures g.m ls c.args.parcels.now c.requires.0 c.args.group c.args.place c.args.source l p d.0 s values c.sent_places-places.result.now c.items_in-span.result c.index-values-place_sent.result hl
    (he ∙ ap Some one) (subst (λ (f : Entry). IsSameEntry f d.0) one d.2) hs is at (omega arith) inside (c.items_in-span.ensures.items s hs d.0 l hl d.1) c.index-values-place_sent.is in
    absurd (never_one c.in-Cell.field-0 c.in-Cell.field-1 (as_in g.m.now p) (sym c.in-Cell.is ∙ value))
