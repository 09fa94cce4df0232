-- The answer of a step.
use Rattle.std.specs.Prelude.{ℕ}
use Rattle.run_model.specs.declared.fault.StepFault.{StepFault}
use Rattle.run_model.specs.Answers.{StopsAt}
use Rattle.run_model.specs.Run.{first_fault}
use Rattle.run_model.specs.Setup.{Setup}

-- the step has this first fault, or memory ran out
abbrev pub StopsBy : Setup → ℕ → StepFault → Type 0
StopsBy u s fault = StopsAt (first_fault u s) fault
