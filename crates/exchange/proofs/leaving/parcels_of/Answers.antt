use Rattle.std.proofs.Common.{◌≡◌, Vec, Global, ℕ, List, take, map, length, nat_eq, not, rules, sym, ◌∙◌, ap, arith}
use Rattle.std.specs.List.{filter, range_with_len}
use Rattle.std.proofs.lemmas.Fn.{filter_same}
use Rattle.std.proofs.lemmas.List.{take_all}
use Rattle.std.proofs.lemmas.List.FromFn.{length-map-range_with_len}
use Rattle.pf_model.specs.Particle.{Particle}
use Rattle.pf_model.specs.Division.{rank_count}
use Rattle.pf_model.specs.Domains.{owner_by}
use Rattle.exchange.specs.States.{Package, owned_by, parcels_from}
use Rattle.exchange.proofs.PileLemmas.{pile_for, piles, pile_kept, piles_more, others_of_piles}
use Rattle.exchange.proofs.leaving.parcels_of.Goals as goal
use Rattle.exchange.proofs.leaving.parcels_of.Goals.{then-to-s+in_ok-put, else-to-s}

pub index_mut-requires : goal.index_mut-requires
index_mut-requires c =
    let long = length-map-range_with_len (pile_for c.args.d.now.cuts c.s.inside.rank (take c.loop-body.body-index c.deref-body-items.result.now)) 0 (rank_count c.args.d.now.cuts.grid) in
    let were = ap length c.loop-body.invariant in
    let within = c.owner_of-to.ensures.rank in
    let whole = c.loop-body.parcels.ok in
    omega arith

pub loop-body-preserved : goal.loop-body-preserved
loop-body-preserved c =
    let js = c.deref-body-items.result.now in
    let i = c.loop-body.body-index in
    let s = c.args.d.now.cuts in
    let src = c.s.inside.rank in
    let count = rank_count s.grid in
    let j = c.body-item.result in
    elim c.if-to-s.branch [
      | then-to-s+in_ok-put w ↦
          ap (λ (v : Vec Package Global). v.items) w.parcels-is
          ∙ piles_more s src js i j count c.owner_of-to.result c.loop-body.parcels.items w.index_mut.result.now w.put.new.self c.loop-body-test.true c.body-item.is
          c.owner_of-to.ensures.value w.if-to-s.true c.owner_of-to.ensures.rank c.loop-body.invariant w.index_mut.ensures.value w.in_ok-put.ensures
      | else-to-s w ↦
          let own : owner_by s j.at ≡ src = sym c.owner_of-to.ensures.value ∙ w.if-to-s.false in
          ap (λ (v : Vec Package Global). v.items) w.parcels-is ∙ c.loop-body.invariant
          ∙ ap (λ (l : List Particle). map (λ (dst : ℕ). record { src = src; dst = dst; bodies = owned_by s dst l }) (range_with_len 0 count)) (sym (pile_kept s src js i j c.loop-body-test.true c.body-item.is own))
    ]

pub returns : goal.returns
returns c =
    let js = c.deref-body-items.result.now in
    let s = c.args.d.now.cuts in
    let src = c.s.inside.rank in
    let count = rank_count s.grid in
    let bodies : js ≡ c.s.inside.bodies.items = c.deref-body-items.ensures.value in
    let all : take c.loop-body.body-index js ≡ c.s.inside.bodies.items = take_all c.loop-body.body-index js c.loop-body-test.false ∙ bodies in
    let kept : c.retain.new.self.items ≡ filter (λ p. not (nat_eq p.dst src)) c.loop-body.parcels.items =
    filter_same _ (λ (p : Package). not (nat_eq p.dst src)) _ (λ x b f' k. search rules) _ _ c.retain.ensures.filtered in
    kept
    ∙ ap (filter (λ (p : Package). not (nat_eq p.dst src))) (c.loop-body.invariant ∙ ap (λ (l : List Particle). piles s src l count) all)
    ∙ others_of_piles s (record { rank = src; bodies = c.s.inside.bodies.items }) (range_with_len 0 count)
    ∙ ap (parcels_from s) c.s.view_is
