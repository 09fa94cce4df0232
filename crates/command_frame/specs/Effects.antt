-- What a command leaves of its files and of what was said.
use Rattle.std.specs.Prelude.{ℕ, ◌≡◌, ◌≢◌, ◌⊎◌, List, ◌++◌, IsTrue, IfSome}
use Rattle.std.specs.Prelude.{option_map}
use Rattle.pf_io.specs.Store.{Files, Told, after_say, one_more_say}
use Rattle.command_frame.specs.Standing.{Standing, IfTold, IsWritten}
use Rattle.command_frame.specs.Status.{failed_call, counts_after}
use Rattle.command_frame.specs.Verdict.{Verdict, lacks, stops, writes, speaks, IgnoresFiles}
use Rattle.command_frame.specs.declared.status.Status.{Status}
use Rattle.command_frame.specs.declared.status.Status.TheVariants.{Done, Usage, Refused, Numeric, Lists}
use Rattle.command_frame.specs.declared.status.Status.TheVariants.{StoreFault, Memory}
use Rattle.command_frame.specs.declared.status.StoreCall.{StoreCall}
use Rattle.command_frame.specs.declared.status.StoreCall.TheVariants.{Open, Read, Create, Write, Say}

-- the verdict is that the command ends so, with nothing written
pub record IsStopped {R F : Type 0} (Means : Verdict R F → Type 0)
    (status : Status R F) (old new : Files) : Type 0 where
  pub meant : Means (stops status)
  pub kept : new ≡ old

-- the verdict is a text that ends so, and all of it was written
pub record HasWritten {R F : Type 0} (Means : Verdict R F → Type 0)
    (status : Status R F) (old new : Files) : Type 0 where
  pub out : List ℕ
  pub text : List ℕ
  pub meant : Means (writes out text status)
  pub written : IsWritten out text old new

-- the verdict is a text to be written
pub record IsToWrite {R F : Type 0} (Means : Verdict R F → Type 0) : Type 0 where
  pub out : List ℕ
  pub text : List ℕ
  pub last : Status R F
  pub meant : Means (writes out text last)

-- and its first bytes were written
pub record HasBegun {R F : Type 0} (Means : Verdict R F → Type 0) (old new : Files) : Type 0 where
  pub verdict : IsToWrite Means
  pub front : List ℕ
  pub rest : List ℕ
  pub split : verdict.text ≡ front ++ rest
  pub written : IsWritten verdict.out front old new

-- the verdict is a text to be said
pub record IsToSpeak {R F : Type 0} (Means : Verdict R F → Type 0) : Type 0 where
  pub text : List ℕ
  pub meant : Means (speaks text)

-- what a command of this verdict leaves of the files when it ends so
abbrev pub LeavesFiles : {R F : Type 0} → (Verdict R F → Type 0) → Status R F → Files → Files → Type 0
LeavesFiles Means Done old new = HasWritten Means Done old new ⊎ (IsToSpeak Means × (new ≡ old))
LeavesFiles Means Usage old new = IsStopped Means Usage old new
LeavesFiles Means (Refused refusal) old new = IsStopped Means (Refused refusal) old new
LeavesFiles Means (Numeric step fault) old new =
    HasWritten Means (Numeric step fault) old new ⊎ IsStopped Means (Numeric step fault) old new
LeavesFiles Means (Lists step count) old new =
    HasWritten Means (Lists step count) old new ⊎ IsStopped Means (Lists step count) old new
LeavesFiles Means (StoreFault Open) old new = new ≡ old
LeavesFiles Means (StoreFault Read) old new = new ≡ old
LeavesFiles Means (StoreFault Create) old new = IsToWrite Means × (new ≡ old)
LeavesFiles Means (StoreFault Write) old new = HasBegun Means old new
LeavesFiles Means (StoreFault Say) old new = IsToSpeak Means × (new ≡ old)
LeavesFiles Means Memory old new = (new ≡ old) ⊎ HasBegun Means old new

-- what is said before the line of the status: the text of a verdict that is one, and else nothing
pub record SaysText {R F : Type 0} (Means : Verdict R F → Type 0) (old new : List ℕ) : Type 0 where
  pub text : List ℕ
  pub meant : Means (speaks text)
  pub said : new ≡ old ++ text

pub record SaysNothing {R F : Type 0} (Means : Verdict R F → Type 0)
    (status : Status R F) (old new : List ℕ) : Type 0 where
  pub out : List ℕ
  pub text : List ℕ
  pub meant : Means (writes out text status)
  pub silent : new ≡ old

abbrev pub LeavesSaid : {R F : Type 0} → (Verdict R F → Type 0) → Status R F → List ℕ → List ℕ → Type 0
LeavesSaid Means Done old new = SaysNothing Means Done old new ⊎ SaysText Means old new
LeavesSaid Means Usage old new = new ≡ old
LeavesSaid Means (Refused refusal) old new = new ≡ old
LeavesSaid Means (Numeric step fault) old new = new ≡ old
LeavesSaid Means (Lists step count) old new = new ≡ old
LeavesSaid Means (StoreFault call) old new = new ≡ old
LeavesSaid Means Memory old new = new ≡ old

pub record Leaves {R F : Type 0} (Means : Files → Verdict R F → Type 0)
    (status : Status R F) (old new : Told) : Type 0 where
  pub files : LeavesFiles (Means old.files) status old.files new.files
  pub said : LeavesSaid (Means old.files) status old.said new.said

-- a command is carried out, to a status with which it may end: it leaves what its verdict says, and where the verdict
-- is the same on all contents, the status is one to which it leads, whether or not the store tells its contents; a method
-- of its store failed exactly where the status says so, over a steady store only where an input isn't there
pub record CarriesOut {R F : Type 0} (MayEnd : Status R F → Type 0) (Means : Files → Verdict R F → Type 0)
    (status : Status R F) (old new : Standing) : Type 0 where
  pub ends : MayEnd status
  pub left : IfTold old new (Leaves Means status)
  pub untold : IgnoresFiles Means → (files : Files) → (later : Files) × LeavesFiles (Means files) status files later
  pub counts : new.faults ≡ counts_after (failed_call status) old.faults
  pub stays_steady : IsTrue old.is_steady → IsTrue new.is_steady
  pub steady : IsTrue old.is_steady → (call : StoreCall) → status ≡ StoreFault call
      → (call ≡ Open) × IfSome old.told (λ t. Means t.files lacks)

-- the line of a status is said, unless it is Done: it was said, or the store failed to say it, or there was no memory
abbrev pub SaysLine : {R F : Type 0} → (Status R F → List ℕ) → Status R F → Status R F → Standing → Standing → Type 0
SaysLine line_of status result old new =
    ((result ≡ status) × (status ≡ Done) × (new.told ≡ old.told) × (new.faults ≡ old.faults))
    ⊎ ((result ≡ status) × (status ≢ Done) × (new.told ≡ option_map (after_say (line_of status)) old.told)
    × (new.faults ≡ old.faults))
    ⊎ ((result ≡ status) × (status ≢ Done) × (new.told ≡ old.told) × (new.faults ≡ one_more_say old.faults)
    × (¬ IsTrue old.is_steady))
    ⊎ ((result ≡ Memory) × (status ≢ Done) × (new.told ≡ old.told) × (new.faults ≡ old.faults))
