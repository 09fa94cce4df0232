use Rattle.std.proofs.Common.{◌≡◌, ◌<◌, ◌≤◌, ℕ, List, [], ◌∷◌, length, map, take, get_or, sym, ◌∙◌, ap, subst, arith, Some}
use Rattle.std.specs.List.{flat_map}
use Rattle.std.proofs.lemmas.Option.{MatchOption-at_none}
use Rattle.pf_model.specs.declared.entry.Entry.{Entry}
use Rattle.pf_model.specs.Particle.{Particle}
use Rattle.pf_model.specs.Reuse.{as_in}
use Rattle.group_lists.specs.Listing.{SourceItems}
use Rattle.list_reuse.specs.Renewing.{rank_members, IsSameEntry}
use Rattle.list_reuse.proofs.RenewLemmas.{some_at, entry_at, built_at, own_inside, own_body, own_without, none_next, never_all_none}
use Rattle.list_reuse.proofs.renewing.body_now.Goals as goal

pub bounds-bodies-span : goal.bounds-bodies-span
bounds-bodies-span g c =
    let ls = c.args.lists.now in
    let l = some_at ls.groups c.args.group c.requires.1.1.0 in
    let e = built_at c.laws.ensures g.m ls c.args.parcels.now c.requires.0 c.args.group c.args.place l.0 l.1 (c.requires.1.1.1 l.0 l.1) in
    let d = entry_at c.laws.ensures g.m ls c.args.parcels.now c.requires.0 c.args.group c.args.place l.0 e.0 l.1 e.1 in
    let inside = own_inside g.m ls.built c.args.own.now c.requires.1.0 c.own_in-span.result (c.own_in-span.ensures.exactly d.0 l.0 l.1 d.1).inside in
    let some = c.if-span-gt0.true in
    let long = ap length c.bodies.ensures.value in
    omega arith

pub returns-then-span-gt0 : goal.returns-then-span-gt0
returns-then-span-gt0 g c l e hl he p one =
    let ls = c.args.lists.now in
    let d = entry_at c.laws.ensures g.m ls c.args.parcels.now c.requires.0 c.args.group c.args.place l e hl he in
    ap Some (own_body c.laws.ensures g.m ls c.args.parcels.now c.requires.0 c.args.group c.args.place l p d.0 c.args.own.now c.own_in-span.result c.index-bodies-span.result hl
    (he ∙ ap Some one) (subst (λ (f : Entry). IsSameEntry f d.0) one d.2) c.requires.1.0 c.if-span-gt0.true (c.own_in-span.ensures.exactly d.0 l hl d.1).inside (c.own_in-span.ensures.bodies d.0 l hl d.1)
    (c.index-bodies-span.is ∙ ap (λ (js : List Particle). get_or js c.own_in-span.result.first c.index-bodies-span.result) c.bodies.ensures.value))

pub loop-source-init : goal.loop-source-init
loop-source-init g c l e p hl he one =
    let ls = c.args.lists.now in
    let d = entry_at c.laws.ensures g.m ls c.args.parcels.now c.requires.0 c.args.group c.args.place l e hl he in
    ap (λ (f : Entry). flat_map (rank_members g.m ls.built l f) (g.m.rank ∷ [])) one
    ∙ own_without c.laws.ensures g.m ls c.args.parcels.now c.requires.0 c.args.group c.args.place l p d.0 c.own_in-span.result hl
    (he ∙ ap Some one) (subst (λ (f : Entry). IsSameEntry f d.0) one d.2) (omega arith) (c.own_in-span.ensures.bodies d.0 l hl d.1)

pub returns-in-Some : goal.returns-in-Some
returns-in-Some g c l e hl he p one =
    let ls = c.args.lists.now in
    let s = some_at ls.sources c.loop-source.source (subst (λ (n : ℕ). c.loop-source.source < n) c.sources-source-end.ensures c.loop-source-test.true) in
    ap Some (c.in-Some.ensures l e hl he s.0 s.1 p one)

pub loop-source-preserved : goal.loop-source-preserved
loop-source-preserved g c l e p hl he one =
    let ls = c.args.lists.now in
    let s = some_at ls.sources c.loop-source.source (subst (λ (n : ℕ). c.loop-source.source < n) c.sources-source-end.ensures c.loop-source-test.true) in
    none_next c.laws.ensures g.m ls c.args.parcels.now c.requires.0 c.loop-source.source l e s.0 s.1 (c.loop-source.invariant l e p hl he one)
    (MatchOption-at_none (rank_members g.m ls.built l e s.0.src ≡ []) (λ (b : Particle). b ≡ as_in g.m.now p) c.in_default.is (c.body_of.ensures l e hl he s.0 s.1 p one))

pub returns : goal.returns
returns g c l e hl he p one =
    let ls = c.args.lists.now in
    absurd (never_all_none c.laws.ensures g.m ls c.args.parcels.now c.requires.0 c.args.group c.args.place c.loop-source.source l p hl (he ∙ ap Some one)
    (subst (λ (n : ℕ). n ≤ c.loop-source.source) c.sources-source-end.ensures c.loop-source-test.false)
    (ap (λ (f : Entry). flat_map (rank_members g.m ls.built l f) (g.m.rank ∷ take c.loop-source.source (map (λ (s : SourceItems). s.src) ls.sources))) (sym one) ∙ c.loop-source.invariant l e p hl he one))
