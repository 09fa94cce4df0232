use Rattle.std.proofs.Common.{◌≡◌, ◌+◌, ◌*◌, ◌≤◌, drop}
use Rattle.run_moves.proofs.MotionLemmas.{before_acc}
use Rattle.run_moves.proofs.motion.acc_place.Given as goal

abbrev pub invariant-loop-v : goal.invariant-loop-v
invariant-loop-v l = record {
  sum : l.place + before_acc (drop l.v-index l.forces) ≡ before_acc l.forces;
  few : l.place ≤ 3 * l.v-index;
}
