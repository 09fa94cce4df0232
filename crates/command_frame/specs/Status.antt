-- What the status that ends a command says of its store.
use Rattle.std.specs.Prelude.{ℕ, ◌-◌, ◌^◌, ◌≤◌, Option, Some, None}
use Rattle.pf_io.specs.Store.{Faults, one_more_open, one_more_read, one_more_create, one_more_write, one_more_say}
use Rattle.command_frame.specs.declared.status.Status.{Status}
use Rattle.command_frame.specs.declared.status.Status.TheVariants.{Done, Usage, Refused, Numeric, Lists}
use Rattle.command_frame.specs.declared.status.Status.TheVariants.{StoreFault, Memory}
use Rattle.command_frame.specs.declared.status.StoreCall.{StoreCall}
use Rattle.command_frame.specs.declared.status.StoreCall.TheVariants.{Open, Read, Create, Write, Say}

-- the method that failed, if the status is that one did
abbrev pub failed_call : {R F : Type 0} → Status R F → Option StoreCall
failed_call Done = None
failed_call Usage = None
failed_call (Refused refusal) = None
failed_call (Numeric step fault) = None
failed_call (Lists step count) = None
failed_call (StoreFault call) = Some call
failed_call Memory = None

-- how often a method has failed
abbrev pub count_of : StoreCall → Faults → ℕ
count_of Open faults = faults.opens
count_of Read faults = faults.reads
count_of Create faults = faults.creates
count_of Write faults = faults.writes
count_of Say faults = faults.says

abbrev pub one_more : StoreCall → Faults → Faults
one_more Open faults = one_more_open faults
one_more Read faults = one_more_read faults
one_more Create faults = one_more_create faults
one_more Write faults = one_more_write faults
one_more Say faults = one_more_say faults

-- the counts, one more where a method failed
abbrev pub counts_after : Option StoreCall → Faults → Faults
counts_after None faults = faults
counts_after (Some call) faults = one_more call faults

-- each count is low enough for one fault of a command and one of its saying
pub record HasRoom (faults : Faults) : Type 0 where
  pub opens : faults.opens ≤ 2 ^ 64 - 3
  pub reads : faults.reads ≤ 2 ^ 64 - 3
  pub creates : faults.creates ≤ 2 ^ 64 - 3
  pub writes : faults.writes ≤ 2 ^ 64 - 3
  pub says : faults.says ≤ 2 ^ 64 - 3

-- the command was refused before anything was written
abbrev pub IsRefusal : {R F : Type 0} → Status R F → Type 0
IsRefusal Done = ⊥
IsRefusal Usage = Unit {0}
IsRefusal (Refused refusal) = Unit {0}
IsRefusal (Numeric step fault) = ⊥
IsRefusal (Lists step count) = ⊥
IsRefusal (StoreFault call) = ⊥
IsRefusal Memory = ⊥

-- the command came to its end: it was done, or a step has a fault
abbrev pub IsLast : {R F : Type 0} → Status R F → Type 0
IsLast Done = Unit {0}
IsLast Usage = ⊥
IsLast (Refused refusal) = ⊥
IsLast (Numeric step fault) = Unit {0}
IsLast (Lists step count) = Unit {0}
IsLast (StoreFault call) = ⊥
IsLast Memory = ⊥

-- the reading of an input ended the command
abbrev pub EndsReading : {R F : Type 0} → Status R F → Type 0
EndsReading Done = ⊥
EndsReading Usage = ⊥
EndsReading (Refused refusal) = Unit {0}
EndsReading (Numeric step fault) = ⊥
EndsReading (Lists step count) = ⊥
EndsReading (StoreFault Open) = Unit {0}
EndsReading (StoreFault Read) = Unit {0}
EndsReading (StoreFault Create) = ⊥
EndsReading (StoreFault Write) = ⊥
EndsReading (StoreFault Say) = ⊥
EndsReading Memory = Unit {0}

-- the writing of an output ended the command
abbrev pub EndsWriting : {R F : Type 0} → Status R F → Type 0
EndsWriting Done = Unit {0}
EndsWriting Usage = ⊥
EndsWriting (Refused refusal) = ⊥
EndsWriting (Numeric step fault) = Unit {0}
EndsWriting (Lists step count) = Unit {0}
EndsWriting (StoreFault Open) = ⊥
EndsWriting (StoreFault Read) = ⊥
EndsWriting (StoreFault Create) = Unit {0}
EndsWriting (StoreFault Write) = Unit {0}
EndsWriting (StoreFault Say) = ⊥
EndsWriting Memory = Unit {0}

-- the saying of an answer ended the command
abbrev pub EndsSpeaking : {R F : Type 0} → Status R F → Type 0
EndsSpeaking Done = Unit {0}
EndsSpeaking Usage = ⊥
EndsSpeaking (Refused refusal) = ⊥
EndsSpeaking (Numeric step fault) = ⊥
EndsSpeaking (Lists step count) = ⊥
EndsSpeaking (StoreFault Open) = ⊥
EndsSpeaking (StoreFault Read) = ⊥
EndsSpeaking (StoreFault Create) = ⊥
EndsSpeaking (StoreFault Write) = ⊥
EndsSpeaking (StoreFault Say) = Unit {0}
EndsSpeaking Memory = Unit {0}
