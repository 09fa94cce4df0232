use Rattle.std.proofs.Common.{◌≡◌, ◌<◌, List, length, Some, sym, ◌∙◌, ap, subst, set, arith}
use Rattle.std.specs.List.{slice_get}
use Rattle.std.proofs.lemmas.List.{length-set}
use Rattle.group_lists.specs.Whole.{GroupList}
use Rattle.group_lists.specs.Listing.{Listing}
use Rattle.list_reuse.specs.Renewing.{CanRenew, IsOwnTree, OfBuilt, with_group, entry_now}
use Rattle.list_reuse.proofs.RenewLemmas.{some_at, field_at}
use Rattle.list_reuse.proofs.GroupLemmas.{set_itself, partly, can_partly, place_partly, one_more, all_renewed}
use Rattle.list_reuse.proofs.renewing.renew_group.Goals as goal

pub loop-place-init : goal.loop-place-init
loop-place-init g c k hk =
    let ls = c.args.lists.now in
    sym (ap (λ (gs : List GroupList). record ls { groups = gs }) (set_itself ls.groups c.args.group k hk))

pub loop-place-preserved : goal.loop-place-preserved
loop-place-preserved g c k hk =
    let ls = c.args.lists.now in
    let n = c.args.group in
    let place = c.loop-place.place in
    let new = c.renew_entry.new.lists in
    let long = ap length (field_at (λ (l : GroupList). l.entries) ls.groups n k c.entries-place-end.result.now hk c.entries-place-end.ensures.value) in
    one_more c.laws.ensures g.m ls c.args.parcels.now c.requires.0 n k hk place (omega arith) new
    (subst (λ (v : Listing). OfBuilt g.m v n place (λ l e. new ≡ with_group v n (record l { entries = set l.entries place (entry_now g.m v.built l e) })))
    (c.loop-place.invariant k hk) c.renew_entry.ensures)

pub returns : goal.returns
returns g c k hk =
    let ls = c.args.lists.now in
    let long = ap length (field_at (λ (l : GroupList). l.entries) ls.groups c.args.group k c.entries-place-end.result.now hk c.entries-place-end.ensures.value) in
    c.loop-place.invariant k hk
    ∙ ap (with_group ls c.args.group) (all_renewed c.laws.ensures g.m ls c.args.parcels.now c.requires.0 c.args.group k hk c.loop-place.place (omega arith))

pub renew_entry-requires : goal.renew_entry-requires
renew_entry-requires g c = (
  (
      let ls = c.args.lists.now in
      let k = some_at ls.groups c.args.group c.requires.1.1 in
      subst (λ (v : Listing). CanRenew g.m v c.args.parcels.now) (sym (c.loop-place.invariant k.0 k.1))
      (can_partly c.laws.ensures g.m ls c.args.parcels.now c.requires.0 c.args.group k.0 k.1 c.loop-place.place)),
  (
    (
        let ls = c.args.lists.now in
        let k = some_at ls.groups c.args.group c.requires.1.1 in
        subst (λ (v : Listing). IsOwnTree g.m v.built c.args.own.now) (sym (c.loop-place.invariant k.0 k.1)) c.requires.1.0),
    (
      (
          let ls = c.args.lists.now in
          let k = some_at ls.groups c.args.group c.requires.1.1 in
          let same = length-set ls.groups c.args.group (partly g.m ls.built k.0 c.loop-place.place) in
          let below : c.args.group < length (with_group ls c.args.group (partly g.m ls.built k.0 c.loop-place.place)).groups = (let h : c.args.group < length ls.groups = c.requires.1.1 in omega arith) in
          subst (λ (v : Listing). c.args.group < length v.groups) (sym (c.loop-place.invariant k.0 k.1)) below),
      (λ k' hk'.
          let ls = c.args.lists.now in
          let k = some_at ls.groups c.args.group c.requires.1.1 in
          let long = ap length (field_at (λ (l : GroupList). l.entries) ls.groups c.args.group k.0 c.entries-place-end.result.now k.1 c.entries-place-end.ensures.value) in
          place_partly c.laws.ensures g.m ls c.args.parcels.now c.requires.0 c.args.group k.0 k.1 c.loop-place.place (omega arith) k'
          (subst (λ (v : Listing). slice_get v.groups c.args.group ≡ Some k') (c.loop-place.invariant k.0 k.1) hk')),
    ),
  ),
)
