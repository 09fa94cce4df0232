-- What moves the particles of a run, and why it stops.
use Rattle.std.specs.Prelude.{◌≡◌}
use Rattle.leapfrog.specs.declared.fault.MoveFault.{MoveFault}
use Rattle.leapfrog.specs.declared.fault.MoveFault.TheVariants as refused
use Rattle.run_moves.specs.declared.motion.Motion.{Motion}
use Rattle.run_model.specs.declared.fault.What.{What}
use Rattle.run_model.specs.declared.fault.What.TheVariants.{Fast, Escaped}
use Rattle.run_model.specs.Force.{acc_place}
use Rattle.run_model.specs.Setup.{Setup}

-- a run that moves its particles so
pub record MovesBy (m : Motion) (u : Setup) : Type 0 where
  pub place : acc_place u.kernel ≡ m.acc_place
  pub edge : u.theta.edge ≡ m.edge
  pub dt : u.dt ≡ m.dt

-- why a particle that wasn't moved stops the run
abbrev pub what_of : MoveFault → What
what_of (refused.Overflow axis) = Fast axis
what_of (refused.Escaped axis) = Escaped axis
