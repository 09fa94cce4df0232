-- What the reading of an input answers, and what it leaves.
use Rattle.std.specs.Prelude.{ℕ, ◌≡◌, List, Option, Some, None, IsTrue, IfSome, IsSomeAnd, Result, Ok, Err}
use Rattle.command_frame.specs.Standing.{Standing, IfTold, IsKept}
use Rattle.command_frame.specs.Status.{EndsReading, counts_after, failed_call}
use Rattle.command_frame.specs.declared.status.Status.{Status}
use Rattle.command_frame.specs.declared.status.Status.TheVariants.{Done, Usage, Refused, Numeric, Lists}
use Rattle.command_frame.specs.declared.status.Status.TheVariants.{StoreFault, Memory}
use Rattle.command_frame.specs.declared.status.StoreCall.{StoreCall}
use Rattle.command_frame.specs.declared.status.StoreCall.TheVariants.{Open, Read, Create, Write, Say}

-- an input that is nothing but its text
abbrev pub IsItself : {R : Type 0} → List ℕ → Result (List ℕ) R → Type 0
IsItself text answer = answer ≡ Ok text

-- what the reading of an input answers of the text that is there: its value, or that it is refused
abbrev pub Answers : {X A R F : Type 0} → (List ℕ → Result A R → Type 0) → (X → A) → Option (List ℕ)
    → Result X (Status R F) → Type 0
Answers Means view there (Ok x) = IsSomeAnd there (λ text. Means text (Ok (view x)))
Answers Means view there (Err Done) = ⊥
Answers Means view there (Err Usage) = ⊥
Answers Means view there (Err (Refused refusal)) = IsSomeAnd there (λ text. Means text (Err refusal))
Answers Means view there (Err (Numeric step fault)) = ⊥
Answers Means view there (Err (Lists step count)) = ⊥
Answers Means view there (Err (StoreFault Open)) = Unit {0}
Answers Means view there (Err (StoreFault Read)) = Unit {0}
Answers Means view there (Err (StoreFault Create)) = ⊥
Answers Means view there (Err (StoreFault Write)) = ⊥
Answers Means view there (Err (StoreFault Say)) = ⊥
Answers Means view there (Err Memory) = Unit {0}

-- what is answered of a text alone: its value, that it is refused, or that there was no memory
abbrev pub Interprets : {X A R F : Type 0} → (List ℕ → Result A R → Type 0) → (X → A) → List ℕ
    → Result X (Status R F) → Type 0
Interprets Means view text (Ok x) = Means text (Ok (view x))
Interprets Means view text (Err Done) = ⊥
Interprets Means view text (Err Usage) = ⊥
Interprets Means view text (Err (Refused refusal)) = Means text (Err refusal)
Interprets Means view text (Err (Numeric step fault)) = ⊥
Interprets Means view text (Err (Lists step count)) = ⊥
Interprets Means view text (Err (StoreFault call)) = ⊥
Interprets Means view text (Err Memory) = Unit {0}

-- the status that ends a command here, if one does
abbrev pub ending_of : {X R F : Type 0} → Result X (Status R F) → Option (Status R F)
ending_of (Ok x) = None
ending_of (Err status) = Some status

abbrev pub failing_of : {X R F : Type 0} → Result X (Status R F) → Option StoreCall
failing_of (Ok x) = None
failing_of (Err status) = failed_call status

-- an input is read: all else stays, and a method failed exactly where the answer says so, over a steady store only
-- where the input isn't there
pub record ReadsInput {X A R F : Type 0} (Means : List ℕ → Result A R → Type 0) (view : X → A) (name : List ℕ)
    (answer : Result X (Status R F)) (old new : Standing) : Type 0 where
  pub ends : IfSome (ending_of answer) EndsReading
  pub kept : IfTold old new IsKept
  pub answers : IfSome old.told (λ t. Answers Means view (t.files name) answer)
  pub counts : new.faults ≡ counts_after (failing_of answer) old.faults
  pub stays_steady : IsTrue old.is_steady → IsTrue new.is_steady
  pub steady : IsTrue old.is_steady → (call : StoreCall) → answer ≡ Err (StoreFault call)
      → (call ≡ Open) × IfSome old.told (λ t. t.files name ≡ None)
