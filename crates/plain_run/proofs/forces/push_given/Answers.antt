use Rattle.std.proofs.Common.{arith}
use Rattle.plain_run.proofs.PairLemmas.{slot_next, slot_end}
use Rattle.plain_run.proofs.forces.push_given.Goals as goal

pub loop-n-preserved : goal.loop-n-preserved
loop-n-preserved c =
    slot_next c.args.v.now.name c.args.targets.now c.args.scratch.now.given c.loop-n.n _ _ _ _ _ (omega (arith, c.loop-n-test.true, c.requires)) c.gives_to.ensures c.slot.ensures c.in_ok-push_slot.ensures c.loop-n.invariant

pub returns : goal.returns
returns c = slot_end c.args.v.now.name c.args.targets.now c.args.scratch.now.given c.loop-n.n _ _ (omega (arith, c.loop-n.auto.n-end, c.loop-n-test.false, c.requires)) c.loop-n.invariant
