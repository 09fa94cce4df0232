use Rattle.std.proofs.Common.{◌≡◌, map, take, drop}
use Rattle.run_model.specs.Force.{first_given}
use Rattle.run_model.specs.Run.{forces_fault}
use Rattle.plain_run.specs.Runs.{forced_by}
use Rattle.plain_run.proofs.state.with_forces.Given as goal

abbrev pub invariant-loop-i : goal.invariant-loop-i
invariant-loop-i l = record {
  forces : l.bodies.items ≡ map (forced_by l.run l.built l.now) (take l.i-index l.now);
  fault : first_given (forces_fault l.run l.built l.now) (drop l.i-index l.now) ≡ first_given (forces_fault l.run l.built l.now) l.now;
}
