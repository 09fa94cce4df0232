use Rattle.std.proofs.Common.{◌≡◌, ◌++◌, drop, take, map}
use Rattle.run_model.specs.Force.{first_given}
use Rattle.run_model.specs.Run as rules
use Rattle.run_model.specs.Setup.{Setup}
use Rattle.run_moves.specs.Moves.{MovesBy}
use Rattle.run_moves.proofs.moves.kick_again.Given as goal

abbrev pub invariant-loop-forced : goal.invariant-loop-forced
invariant-loop-forced l = record {
  kicked : (u : Setup) → MovesBy l.m u
      → l.bodies ≡ map (rules.kicked_again u) (take l.forced-index l.initial.bodies) ++ drop l.forced-index l.initial.bodies;
  no_fault : (u : Setup) → MovesBy l.m u
      → first_given (rules.kick_fault u) (drop l.forced-index l.initial.bodies) ≡ first_given (rules.kick_fault u) l.initial.bodies;
}
