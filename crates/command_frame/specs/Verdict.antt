-- What a command means on the contents of its files: one verdict, made of steps that read one file each.
use Rattle.std.specs.Prelude.{ℕ, ◌≡◌, ◌<◌, ◌≤◌, ◌⊎◌, List, length, Option, Some, None, Result, Ok, Err}
use Rattle.pf_io.specs.Store.{Files}
use Rattle.command_frame.specs.declared.status.Status.{Status}
use Rattle.command_frame.specs.declared.status.Status.TheVariants.{Refused}

pub data Verdict (R F : Type 0) : Type 0 where
  -- an input isn't there
  lacks : Verdict R F
  -- the command ends so before it writes or says anything
  stops : Status R F → Verdict R F
  -- it writes under this name this text, and ends so
  writes : List ℕ → List ℕ → Status R F → Verdict R F
  -- it says this text, and is done
  speaks : List ℕ → Verdict R F

-- what follows from the text of an input, if it is there: that it is refused, or what its value leads to
abbrev pub AfterText : {A R F : Type 0} → (List ℕ → Result A R → Type 0) → (A → Verdict R F → Type 0)
    → Option (List ℕ) → Verdict R F → Type 0
AfterText Means next None verdict = verdict ≡ lacks
AfterText {A} {R} Means next (Some text) verdict =
    ((refusal : R) × Means text (Err refusal) × (verdict ≡ stops (Refused refusal)))
    ⊎ ((value : A) × Means text (Ok value) × next value verdict)

-- the input of this name is read, and then its value leads on
abbrev pub After : {A R F : Type 0} → (List ℕ → Result A R → Type 0) → Files → List ℕ → (A → Verdict R F → Type 0)
    → Verdict R F → Type 0
After Means files name next verdict = AfterText Means next (files name) verdict

-- a text that is longer than its limit is refused as too large
abbrev pub Within : {A R : Type 0} → ℕ → R → (List ℕ → Result A R → Type 0) → List ℕ → Result A R → Type 0
Within limit large Means text answer =
    ((length text ≤ limit) × Means text answer) ⊎ ((limit < length text) × (answer ≡ Err large))

-- the faults of a text are why it is refused
abbrev pub Refusing : {A E R : Type 0} → (E → R) → (List ℕ → Result A E → Type 0) → List ℕ → Result A R → Type 0
Refusing why Means text (Ok value) = Means text (Ok value)
Refusing {E = E} why Means text (Err refusal) = (fault : E) × Means text (Err fault) × (refusal ≡ why fault)

abbrev pub AtMostOne : {A : Type 0} → (A → Type 0) → Type 0
AtMostOne {A} Fits = (a b : A) → Fits a → Fits b → a ≡ b

abbrev pub AtLeastOne : {A : Type 0} → (A → Type 0) → Type 0
AtLeastOne {A} Fits = (a : A) × Fits a

-- the verdict is the same whatever the contents are
abbrev pub IgnoresFiles : {R F : Type 0} → (Files → Verdict R F → Type 0) → Type 0
IgnoresFiles {R} {F} Means = (some other : Files) (verdict : Verdict R F) → Means some verdict → Means other verdict
