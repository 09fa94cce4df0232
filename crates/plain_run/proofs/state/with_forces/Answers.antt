use Rattle.std.proofs.lemmas.Result.{err_from_is_err_and}
use Rattle.run_model.specs.Run.{forces_fault}
use Rattle.plain_run.specs.Runs.{forced_by}
use Rattle.plain_run.proofs.StepLemmas.{pushed_next}
use Rattle.plain_run.proofs.StopLemmas.{stops_here, none_here}
use Rattle.plain_run.proofs.state.with_forces.Goals as goal

pub returns-in_err-forced-clause-fault : goal.returns-in_err-forced-clause-fault
returns-in_err-forced-clause-fault c =
    let p = err_from_is_err_and c.from_residual.result c.from_residual.ensures.1 in
    rw (p.1, p.2)
    (stops_here (forces_fault c.args.run.now c.args.built.now c.args.now.now) c.args.now.now c.loop-i.i-index c.i-item.result c.loop-i-test.true c.i-item.is c.loop-i.invariant.fault c.in_err-forced.field-0.0 c.in_err-forced.ensures.fault)

pub loop-i-preserved : goal.loop-i-preserved
loop-i-preserved c = record {
  forces = pushed_next (forced_by c.args.run.now c.args.built.now c.args.now.now) c.args.now.now c.loop-i.i-index c.i-item.result _ _ _ c.loop-i-test.true c.i-item.is c.loop-i.invariant.forces c.in_ok-forced.ensures.forces c.in_ok-push.ensures;
  fault = none_here (forces_fault c.args.run.now c.args.built.now c.args.now.now) c.args.now.now c.loop-i.i-index c.i-item.result c.loop-i-test.true c.i-item.is c.loop-i.invariant.fault c.in_ok-forced.ensures.no_fault;
}
