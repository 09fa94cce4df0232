-- The answers of a step and of its parts.
use Rattle.std.specs.Prelude.{◌≡◌, Option, Some}
use Rattle.run_model.specs.declared.fault.PhaseFault.{PhaseFault}
use Rattle.run_model.specs.declared.fault.PhaseFault.TheVariants as phase
use Rattle.run_model.specs.declared.fault.StepFault.{StepFault}
use Rattle.run_model.specs.declared.fault.StepFault.TheVariants.{Numeric, Lists, Memory}
use Rattle.run_model.specs.Run.{Stop}
use Rattle.run_model.specs.Run as stop

-- this is the first fault, or memory ran out
abbrev pub StopsAt : Option Stop → StepFault → Type 0
StopsAt first (Numeric fault) = first ≡ Some (stop.Numeric fault)
StopsAt first (Lists count) = first ≡ Some (stop.Lists count)
StopsAt first Memory = Unit {0}

-- the fault of a part of the step as that of the step
abbrev pub of_phase : PhaseFault → StepFault
of_phase (phase.Numeric fault) = Numeric fault
of_phase phase.Memory = Memory
