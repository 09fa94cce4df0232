use Rattle.std.proofs.Common.{arith, sym}
use Rattle.run_moves.proofs.MotionLemmas.{past_another}
use Rattle.run_moves.proofs.motion.acc_place.Goals as goal

pub loop-v-preserved : goal.loop-v-preserved
loop-v-preserved c =
    let more = past_another c.args.forces.now c.loop-v.v-index c.v-item.result c.loop-v-test.true c.v-item.is (sym c.if-is_acc.ensures) in
    record { sum = omega (arith, more); few = omega arith }
