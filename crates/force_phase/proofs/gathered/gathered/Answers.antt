use Rattle.std.proofs.Common.{arith, ◌<◌, length}
use Rattle.force_phase.proofs.TallyLemmas.{slot_more, slot_end}
use Rattle.force_phase.proofs.gathered.gathered.Goals as goal

pub loop-n-preserved : goal.loop-n-preserved
loop-n-preserved c =
    let below : c.loop-n.n < length c.args.s.now.given = omega (arith, c.loop-n-test.true, c.requires.slots) in (
      slot_more c.args.v.now c.args.targets.now c.args.s.now.given c.loop-n.n c.loop-n.tally c.with_slot-tally.result _ c.gives_to-gives.result c.slot.result below
          c.gives_to-gives.ensures c.slot.ensures c.with_slot-tally.ensures.value c.loop-n.invariant.0,
      omega (arith, c.with_slot-tally.ensures.few, c.loop-n.invariant.1),
    )

pub returns : goal.returns
returns c = slot_end c.args.v.now c.args.targets.now c.args.s.now.given c.loop-n.n c.loop-n.tally _ (omega (arith, c.loop-n.auto.n-end, c.loop-n-test.false, c.requires.slots)) c.loop-n.invariant.0
