-- What a command keeps to from its call to its return: each clause over its verdict on the contents at entry.
use Rattle.std.specs.Prelude.{ℕ, ◌≡◌, ◌≢◌, ◌+◌, ◌<◌, ◌⊎◌, List, ◌++◌, IsTrue, IfSome, IsSomeAnd, Option, Some, None}
use Rattle.pf_io.specs.Store.{Files, Told}
use Rattle.command_frame.specs.Standing.{Standing, IfTold, IsFrontOf}
use Rattle.command_frame.specs.Status.{IsRefusal, IsLast, count_of}
use Rattle.command_frame.specs.Verdict.{Verdict, lacks, stops, writes, speaks, IgnoresFiles}
use Rattle.command_frame.specs.declared.status.Status.{Status}
use Rattle.command_frame.specs.declared.status.Status.TheVariants.{Done, Usage, Refused, Numeric, Lists}
use Rattle.command_frame.specs.declared.status.Status.TheVariants.{StoreFault, Memory}
use Rattle.command_frame.specs.declared.status.StoreCall.{StoreCall}
use Rattle.command_frame.specs.declared.status.StoreCall.TheVariants.{Open, Read, Create, Write, Say}

-- what holds on the contents at entry: those that the store tells; where it tells none, any contents, of a command whose
-- verdict doesn't depend on them
abbrev pub OnContents : {R F : Type 0} → (Files → Verdict R F → Type 0) → Option Told → (Files → Type 0) → Type 0
OnContents Means None holds = IgnoresFiles Means → (files : Files) → holds files
OnContents Means (Some t) holds = holds t.files

-- this status, or one that stopped the command before: want of memory, or a fault of opening or reading
abbrev pub IsUnlessStopped : {R F : Type 0} → Status R F → Status R F → Type 0
IsUnlessStopped result status = (result ≡ status) ⊎ (result ≡ Memory) ⊎ (result ≡ StoreFault Open)
    ⊎ (result ≡ StoreFault Read)

-- the statuses that leave all contents as they were
abbrev pub KeepsContents : {R F : Type 0} → Status R F → Type 0
KeepsContents Done = ⊥
KeepsContents Usage = Unit {0}
KeepsContents (Refused refusal) = Unit {0}
KeepsContents (Numeric step fault) = ⊥
KeepsContents (Lists step count) = ⊥
KeepsContents (StoreFault Open) = Unit {0}
KeepsContents (StoreFault Read) = Unit {0}
KeepsContents (StoreFault Create) = Unit {0}
KeepsContents (StoreFault Write) = ⊥
KeepsContents (StoreFault Say) = Unit {0}
KeepsContents Memory = ⊥

-- the statuses that no method of the store brings about, other than the one that says them
abbrev pub IsJudgement : {R F : Type 0} → Status R F → Type 0
IsJudgement Done = ⊥
IsJudgement Usage = Unit {0}
IsJudgement (Refused refusal) = Unit {0}
IsJudgement (Numeric step fault) = Unit {0}
IsJudgement (Lists step count) = Unit {0}
IsJudgement (StoreFault call) = ⊥
IsJudgement Memory = ⊥

-- the statuses under which one line is said
abbrev pub HasLine : {R F : Type 0} → Status R F → Type 0
HasLine Done = ⊥
HasLine Usage = Unit {0}
HasLine (Refused refusal) = Unit {0}
HasLine (Numeric step fault) = Unit {0}
HasLine (Lists step count) = Unit {0}
HasLine (StoreFault Open) = Unit {0}
HasLine (StoreFault Read) = Unit {0}
HasLine (StoreFault Create) = Unit {0}
HasLine (StoreFault Write) = Unit {0}
HasLine (StoreFault Say) = ⊥
HasLine Memory = ⊥

-- no text is to be written
abbrev pub WritesNothing : {R F : Type 0} → (Verdict R F → Type 0) → Type 0
WritesNothing {R} {F} Means = (out text : List ℕ) (last : Status R F) → ¬ Means (writes out text last)

-- no text is to be written under this name
abbrev pub IsNoOutput : {R F : Type 0} → (Verdict R F → Type 0) → List ℕ → Type 0
IsNoOutput {R} {F} Means name = (out text : List ℕ) (last : Status R F) → Means (writes out text last) → name ≢ out

-- the inputs are accepted, and end the command so
abbrev pub IsAccepted : {R F : Type 0} → (Verdict R F → Type 0) → Status R F → Type 0
IsAccepted Means status =
    ((out : List ℕ) × (text : List ℕ) × Means (writes out text status))
    ⊎ Means (stops status)
    ⊎ ((status ≡ Done) × (text : List ℕ) × Means (speaks text))

-- the inputs are accepted, and a text is to be written
abbrev pub IsOutputDue : {R F : Type 0} → (Verdict R F → Type 0) → Type 0
IsOutputDue {R} {F} Means = (out : List ℕ) × (text : List ℕ) × (last : Status R F) × Means (writes out text last)

-- the text of the verdict stands under its name, and the command ends as it says
abbrev pub HasOutput : {R F : Type 0} → (Verdict R F → Type 0) → Status R F → Files → Type 0
HasOutput {R} {F} Means result files =
    (out text : List ℕ) (last : Status R F) → Means (writes out text last) → (last ≡ result) × (files out ≡ Some text)

-- bytes that begin the text of the verdict stand under its name
abbrev pub HasOutputFront : {R F : Type 0} → (Verdict R F → Type 0) → Files → Type 0
HasOutputFront {R} {F} Means files =
    (out text : List ℕ) (last : Status R F) → Means (writes out text last)
    → IsSomeAnd (files out) (λ front. IsFrontOf front text)

-- what a command that is done has said: the text of its verdict, or nothing where it wrote one
pub record HasAnswered {R F : Type 0} (Means : Verdict R F → Type 0) (old new : List ℕ) : Type 0 where
  pub text : (text : List ℕ) → Means (speaks text) → new ≡ old ++ text
  pub nothing : (out text : List ℕ) → Means (writes out text Done) → new ≡ old

abbrev pub SaidThis : List ℕ → Standing → Standing → Type 0
SaidThis text old new = IfTold old new (λ t u. u.said ≡ t.said ++ text)

abbrev pub SaidNothing : Standing → Standing → Type 0
SaidNothing old new = IfTold old new (λ t u. u.said ≡ t.said)

-- a command concludes: it may end so, its verdict on the contents at entry says this of its status and of the
-- contents, and its counts of faults and what was said go with its status
pub record Concludes {R F : Type 0} (MayEnd : Status R F → Type 0) (Means : Files → Verdict R F → Type 0)
    (line_of : Status R F → List ℕ) (result : Status R F) (old new : Standing) : Type 0 where
  pub ends : (result ≡ Memory) ⊎ MayEnd result
  pub refused_only : IsRefusal result → OnContents Means old.told (λ files. Means files (stops result))
  pub refused : OnContents Means old.told (λ files. (status : Status R F) → Means files (stops status)
      → IsUnlessStopped result status)
  pub accepted_only : IsLast result → OnContents Means old.told (λ files. IsAccepted (Means files) result)
  pub contents_kept : KeepsContents result → IfTold old new (λ t u. u.files ≡ t.files)
  pub nothing_written : IfTold old new (λ t u. WritesNothing (Means t.files) → u.files ≡ t.files)
  pub others_kept : IfTold old new (λ t u. (name : List ℕ) → IsNoOutput (Means t.files) name
      → u.files name ≡ t.files name)
  pub output : IsLast result → IfTold old new (λ t u. HasOutput (Means t.files) result u.files)
  pub write_fault : result ≡ StoreFault Write → IfTold old new (λ t u. HasOutputFront (Means t.files) u.files)
  pub memory : result ≡ Memory → IfTold old new (λ t u.
      (u.files ≡ t.files) ⊎ (IsOutputDue (Means t.files) × HasOutputFront (Means t.files) u.files))
  pub fault_rose : (call : StoreCall) → result ≡ StoreFault call → count_of call old.faults < count_of call new.faults
  pub create_and_write_only : (result ≡ StoreFault Create) ⊎ (result ≡ StoreFault Write)
      → OnContents Means old.told (λ files. IsOutputDue (Means files))
  pub steady : IsTrue old.is_steady → (new.faults ≡ old.faults)
      ⊎ (((result ≡ StoreFault Open) ⊎ (result ≡ Memory)) × MayEnd (StoreFault Open)
      × IfSome old.told (λ t. Means t.files lacks))
  pub done_counts : result ≡ Done → new.faults ≡ old.faults
  pub done_said : result ≡ Done → IfTold old new (λ t u. HasAnswered (Means t.files) t.said u.said)
  pub other_counts : (call : StoreCall) → IsJudgement result → call ≢ Say
      → count_of call new.faults ≡ count_of call old.faults
  pub said : HasLine result
      → ((new.faults.says ≡ old.faults.says) × SaidThis (line_of result) old new)
      ⊎ ((old.faults.says < new.faults.says) × SaidNothing old new)
  pub say_fault : result ≡ StoreFault Say
      → ((new.faults.says ≡ old.faults.says + 1) × SaidThis (line_of result) old new)
      ⊎ ((new.faults.says ≡ old.faults.says + 2) × SaidNothing old new)
  pub memory_said : result ≡ Memory → SaidThis (line_of result) old new ⊎ SaidNothing old new
  pub written : OnContents Means old.told (λ files. (out text : List ℕ) (last : Status R F) → Means files (writes out text last)
      → new.faults ≡ old.faults → (result ≡ last) ⊎ (result ≡ Memory))
  pub answered : OnContents Means old.told (λ files. (text : List ℕ) → Means files (speaks text)
      → new.faults ≡ old.faults → (result ≡ Done) ⊎ (result ≡ Memory))
