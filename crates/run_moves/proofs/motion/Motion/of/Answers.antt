use Rattle.std.proofs.Common.{arith}
use Rattle.run_moves.proofs.motion.Motion.of.Goals as goal

pub acc_place-requires : goal.acc_place-requires
acc_place-requires c =
    rw c.forces.ensures (let few = c.forces_and_slots_are_few.ensures c.args.t.now c.kernel-kernel.ensures.parsed in omega (arith, few))
