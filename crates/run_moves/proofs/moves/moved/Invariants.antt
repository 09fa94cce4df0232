use Rattle.std.proofs.Common.{◌≡◌, drop, take, map}
use Rattle.run_model.specs.Force.{first_given}
use Rattle.run_model.specs.Run as rules
use Rattle.run_model.specs.Setup.{Setup}
use Rattle.run_moves.specs.Moves.{MovesBy}
use Rattle.run_moves.proofs.moves.moved.Given as goal

abbrev pub invariant-loop-forced : goal.invariant-loop-forced
invariant-loop-forced l = record {
  moved : (u : Setup) → MovesBy l.m u → l.now.items ≡ map (rules.moved_body u) (take l.forced-index l.bodies);
  no_fault : (u : Setup) → MovesBy l.m u
      → first_given (rules.move_fault u) (drop l.forced-index l.bodies) ≡ first_given (rules.move_fault u) l.bodies;
}
