use Rattle.std.proofs.Common.{◌∙◌, arith}
use Rattle.run_model.specs.Run.{kicked_again, kick_fault}
use Rattle.run_moves.proofs.MoveLemmas.{set_more, none_more}
use Rattle.run_moves.proofs.moves.kick_again.Goals as goal

pub loop-forced-preserved : goal.loop-forced-preserved
loop-forced-preserved c = record {
  kicked = λ u m. set_more (kicked_again u) c.args.bodies.now c.loop-forced.bodies c.loop-forced.forced-index c.forced-item.result (omega arith) (c.loop-forced.invariant.kicked u m) c.forced-item.is c.kick_forced.new.forced (c.in_ok-kick_forced.ensures.kicked u m);
  no_fault = λ u m. none_more (kicked_again u) c.args.bodies.now c.loop-forced.bodies c.loop-forced.forced-index c.forced-item.result (omega arith) (c.loop-forced.invariant.kicked u m) c.forced-item.is (kick_fault u) (c.in_ok-kick_forced.ensures.no_fault u m) ∙ c.loop-forced.invariant.no_fault u m;
}
