use Rattle.std.proofs.Common.{◌≡◌, ◌<◌, ◌≤◌, ℕ, List, length, map, refl, sym, ◌∙◌, ap, subst, arith}
use Rattle.pf_model.specs.Particle.{Particle}
use Rattle.group_lists.specs.Listing.{Listing, OfGroup, with_own}
use Rattle.list_reuse.specs.Keeping.{AreKept}
use Rattle.list_reuse.specs.Renewing.{CanRenew, IsOwnTree, with_group, renewed_group}
use Rattle.list_reuse.proofs.KeptLemmas.{half, can_begin, can_half, half_long, half_more, half_all, kept_again, all_stay}
use Rattle.list_reuse.proofs.kept.renew.Goals as goal

pub set_own-requires : goal.set_own-requires
set_own-requires g c =
    let id = λ (j : Particle). j.id in
    ap (map id) c.bodies.ensures.value ∙ c.bodies.ensures.tree.same_ids ∙ ap (map id) c.requires.1.0

pub loop-group-preserved : goal.loop-group-preserved
loop-group-preserved g c =
    let start = c.set_own.new.self in
    let n = c.loop-group.group in
    let new = c.renew_group.new.lists in
    let below : n < length start.groups = subst (λ (k : ℕ). n < k) c.groups-group-end.ensures.value c.loop-group-test.true in
    half_more g.m start new n below
    (subst (λ (v : Listing). OfGroup v.groups n (λ l. new ≡ with_group v n (renewed_group g.m v.built l))) c.loop-group.invariant c.renew_group.ensures)

pub returns-clause-kept : goal.returns-clause-kept
returns-clause-kept g c =
    let ls = c.args.lists.now in
    let start = c.set_own.new.self in
    let n = c.loop-group.group in
    let is : start ≡ with_own c.args.own.now.bodies ls = c.set_own.ensures ∙ ap (λ (js : List Particle). with_own js ls) c.bodies.ensures.value in
    let past : length start.groups ≤ n = subst (λ (k : ℕ). k ≤ n) c.groups-group-end.ensures.value c.loop-group-test.false in
    let all = c.loop-group.invariant ∙ half_all g.m start n past ∙ ap (λ (v : Listing). record v { groups = map (renewed_group g.m v.built) v.groups }) is in
    subst (AreKept g.m) (sym all) (kept_again g.m ls c.args.own.now c.args.parcels.now c.requires.0.0 c.requires.0.1 c.requires.1.0 c.requires.1.1)

pub returns-clause-built : goal.returns-clause-built
returns-clause-built g c =
    let ls = c.args.lists.now in
    let start = c.set_own.new.self in
    let n = c.loop-group.group in
    let is : start ≡ with_own c.args.own.now.bodies ls = c.set_own.ensures ∙ ap (λ (js : List Particle). with_own js ls) c.bodies.ensures.value in
    let past : length start.groups ≤ n = subst (λ (k : ℕ). k ≤ n) c.groups-group-end.ensures.value c.loop-group-test.false in
    let all = c.loop-group.invariant ∙ half_all g.m start n past ∙ ap (λ (v : Listing). record v { groups = map (renewed_group g.m v.built) v.groups }) is in
    (all_stay g.m ls c.loop-group.lists c.args.own.now.bodies all).0

pub returns-clause-spans : goal.returns-clause-spans
returns-clause-spans g c =
    let ls = c.args.lists.now in
    let start = c.set_own.new.self in
    let n = c.loop-group.group in
    let is : start ≡ with_own c.args.own.now.bodies ls = c.set_own.ensures ∙ ap (λ (js : List Particle). with_own js ls) c.bodies.ensures.value in
    let past : length start.groups ≤ n = subst (λ (k : ℕ). k ≤ n) c.groups-group-end.ensures.value c.loop-group-test.false in
    let all = c.loop-group.invariant ∙ half_all g.m start n past ∙ ap (λ (v : Listing). record v { groups = map (renewed_group g.m v.built) v.groups }) is in
    (all_stay g.m ls c.loop-group.lists c.args.own.now.bodies all).1

pub renew_group-requires : goal.renew_group-requires
renew_group-requires g c = (
  (
      let ls = c.args.lists.now in
      let parcels = c.args.parcels.now in
      let start = c.set_own.new.self in
      let is : start ≡ with_own c.args.own.now.bodies ls = c.set_own.ensures ∙ ap (λ (js : List Particle). with_own js ls) c.bodies.ensures.value in
      let can : CanRenew g.m start parcels = subst (λ (v : Listing). CanRenew g.m v parcels) (sym is) (can_begin c.laws.ensures g.m ls c.args.own.now parcels c.requires.0.0 c.requires.0.1 c.requires.1.1) in
      subst (λ (v : Listing). CanRenew g.m v parcels) (sym c.loop-group.invariant) (can_half c.laws.ensures g.m start parcels can c.loop-group.group)),
  (
    (
        let ls = c.args.lists.now in
        let start = c.set_own.new.self in
        let built : c.args.own.now.built ≡ start.built = c.requires.1.0 ∙ ap (λ (v : Listing). v.built) (sym c.set_own.ensures) in
        let own : IsOwnTree g.m start.built c.args.own.now = subst (λ (js : List Particle). IsOwnTree g.m js c.args.own.now) built (record { tree = refl; bodies = c.requires.1.1.own }) in
        subst (λ (v : Listing). IsOwnTree g.m v.built c.args.own.now) (sym c.loop-group.invariant) own),
    (
        let start = c.set_own.new.self in
        let n = c.loop-group.group in
        let below : n < length start.groups = subst (λ (k : ℕ). n < k) c.groups-group-end.ensures.value c.loop-group-test.true in
        let long = half_long g.m start n (omega arith) in
        let inside : n < length (half g.m start n).groups = omega arith in
        subst (λ (v : Listing). n < length v.groups) (sym c.loop-group.invariant) inside),
  ),
)
