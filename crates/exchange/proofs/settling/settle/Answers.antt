use Rattle.std.proofs.Common.{◌≡◌, ◌++◌, take, sym, ◌∙◌, ap}
use Rattle.std.specs.List.{flat_map}
use Rattle.std.specs.Vec.{with_items}
use Rattle.std.proofs.lemmas.List.{take_all, with_items_is}
use Rattle.std.proofs.lemmas.List.Sorted.{length_permutation}
use Rattle.pf_model.specs.Particles.{by_id}
use Rattle.exchange.specs.States.{Holding, Package, joined}
use Rattle.exchange.proofs.settling.settle.Goals as goal

pub returns-clause-value : goal.returns-clause-value
returns-clause-value c =
    let ps = c.args.parcels.items in
    let js = c.loop-parcel.bodies.items in
    let ks = c.sort_by_id.new.bodies in
    let left = ap (λ (h : Holding). h.bodies) c.s.view_is in
    let came : take c.loop-parcel.parcel-index c.deref-parcel-items.result.now ≡ ps = take_all c.loop-parcel.parcel-index c.deref-parcel-items.result.now c.loop-parcel-test.false ∙ c.deref-parcel-items.ensures.value in
    let all : js ≡ joined c.args.s.bodies ps = c.loop-parcel.invariant ∙ (λ i. left i ++ flat_map (λ (p : Package). p.bodies) (came i)) in
    let given = c.deref_mut.ensures.value in
    let sorted : ks ≡ by_id c.deref_mut.result.now = sym (c.ascending_is_by_id.ensures c.deref_mut.result.now ks c.sort_by_id.ensures.same c.sort_by_id.ensures.in_order) in
    let long = length_permutation c.deref_mut.result.now ks c.sort_by_id.ensures.same in
    let kept : (with_items c.loop-parcel.bodies ks).items ≡ ks = with_items_is c.loop-parcel.bodies ks (long ∙ c.deref_mut.ensures.len) in
    let bodies : (with_items c.loop-parcel.bodies ks).items ≡ by_id (joined c.args.s.bodies ps) = kept ∙ sorted ∙ ap by_id (given ∙ all) in
    let rank = ap (λ (h : Holding). h.rank) c.s.view_is in
    λ i. record { rank = rank i; bodies = bodies i }
