use Rattle.std.proofs.Common.{◌≡◌, ◌+◌, true, false, Ok, ◌++◌, length, take, drop, sym, ap, subst, ◌∙◌, arith}
use Rattle.run_model.specs.Force.{exerted}
use Rattle.force_phase.specs.Gathered.{IsReady, nothing_yet}
use Rattle.force_phase.specs.Partner.{is_another}
use Rattle.force_phase.proofs.UnderWay.{IsUnderWay, begins, ends, after_itself, after_pair, pair_seen, written_back}
use Rattle.force_phase.proofs.force.gather_pairs.Goals as goal
use Rattle.force_phase.proofs.force.gather_pairs.Goals.{then-is_another+in-Ok, else-is_another}

pub loop-partner-init : goal.loop-partner-init
loop-partner-init c =
    let own = c.args.work.now.tallies in
    let new = c.clear.new.tallies in
    let long : length new ≡ length own.items = c.clear.auto.tallies ∙ ap length c.deref_mut.ensures.value in
    let back : take own.len (new ++ drop (length new) own.items) ≡ new = written_back new own.items own.len (omega (arith, long, own.ok.0)) (omega (arith, own.ok.0)) in
    let work = c.args.work.now in
    subst (IsUnderWay c.args.edge c.args.t.now c.args.i.now c.args.partners.now 0 work.scratch work.targets.items) (sym back)
    (begins c.args.edge c.args.t.now c.args.i.now c.args.partners.now work.scratch work.targets.items new
    (subst (IsReady c.args.t.now work.scratch work.targets.items) (sym long) c.requires.ready) (c.clear.ensures ∙ ap nothing_yet c.forces.ensures))

pub loop-partner-preserved : goal.loop-partner-preserved
loop-partner-preserved c =
    let i = c.args.i.now in
    let p = c.partner-item.result in
    let k = c.loop-partner.partner-index in
    let own = c.loop-partner.work in
    elim c.if-is_another.branch [
      | then-is_another+in-Ok w ↦
          (let other : is_another i.id p.id ≡ true = ap (λ b. is_another b.id p.id) (sym c.i.view_is) ∙ sym c.is_another.ensures ∙ w.if-is_another.true in
          let new = w.gather.new.tallies in
          let gathered = rw (w.deref.ensures.value, w.forces-in-Ok.ensures, w.deref_mut-in-Ok.ensures.value) at w.gather.ensures.value in
          let long : length new ≡ length own.tallies.items = w.gather.auto.tallies ∙ ap length w.deref_mut-in-Ok.ensures.value in
          let back : take own.tallies.len (new ++ drop (length new) own.tallies.items) ≡ new = written_back new own.tallies.items own.tallies.len (omega (arith, long, own.tallies.ok.0)) (omega (arith, own.tallies.ok.0)) in
          let made = w.pair.ensures.made in
          let item = w.exerted-item.ensures ∙ ap (λ b. exerted c.args.edge b.at p.item) c.i.view_is in
          let gives = pair_seen c.args.edge c.args.t.now i p c.received-received.result w.exerted-item.result (Ok w.pair.new.s.given) c.received-received.ensures item w.in-Ok.ensures.ok in
          rw w.work-is
          (subst (IsUnderWay c.args.edge c.args.t.now i c.args.partners.now (k + 1) w.pair.new.s own.targets.items) (sym back)
          (after_pair c.args.edge c.args.t.now i c.args.partners.now k own.scratch own.targets.items own.tallies.items c.loop-partner.invariant p c.loop-partner-test.true c.partner-item.is
          w.pair.new.s new w.slots.result other made gives (w.slots.ensures ∙ sym made.given) w.slots.type_inv gathered)))
      | else-is_another w ↦
          (let itself : is_another i.id p.id ≡ false = ap (λ b. is_another b.id p.id) (sym c.i.view_is) ∙ sym c.is_another.ensures ∙ w.if-is_another.false in
          rw w.work-is
          (after_itself c.args.edge c.args.t.now i c.args.partners.now k own.scratch own.targets.items own.tallies.items c.loop-partner.invariant p c.loop-partner-test.true c.partner-item.is itself))
    ]

pub returns-clause-gathered : goal.returns-clause-gathered
returns-clause-gathered c =
    (ends c.args.edge c.args.t.now c.args.i.now c.args.partners.now c.loop-partner.partner-index c.loop-partner.work.scratch c.loop-partner.work.targets.items c.loop-partner.work.tallies.items c.loop-partner.invariant
    (omega (arith, c.loop-partner-test.false, c.loop-partner.auto.partner-index-end))).1
