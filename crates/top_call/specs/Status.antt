-- The exit status of the program.
use Rattle.std.specs.Prelude.{ℕ}
use Rattle.command_frame.specs.declared.status.Status.{Status}
use Rattle.command_frame.specs.declared.status.Status.TheVariants.{Done, Usage, Refused, Numeric, Lists}
use Rattle.command_frame.specs.declared.status.Status.TheVariants.{StoreFault, Memory}

abbrev pub code_of : {R F : Type 0} → Status R F → ℕ
code_of Done = 0
code_of Usage = 2
code_of (Refused refusal) = 3
code_of (Numeric step fault) = 4
code_of (Lists step count) = 5
code_of (StoreFault call) = 6
code_of Memory = 7
