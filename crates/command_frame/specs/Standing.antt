-- How a store stands before and after a call.
use Rattle.std.specs.Prelude.{ℕ, ◌≡◌, ◌≢◌, List, ◌++◌, Bool, Option, Some, None}
use Rattle.pf_io.specs.Store.{Files, Told, Faults}

-- what a store tells of itself, how often its methods failed, and whether it is steady
pub record Standing : Type 0 where
  pub told : Option Told
  pub faults : Faults
  pub is_steady : Bool

abbrev pub standing : Option Told → Faults → Bool → Standing
standing told faults is_steady = record { told = told; faults = faults; is_steady = is_steady }

abbrev pub IfBoth : Option Told → Option Told → (Told → Told → Type 0) → Type 0
IfBoth None later holds = Unit {0}
IfBoth (Some t) None holds = ⊥
IfBoth (Some t) (Some u) holds = holds t u

-- what holds of the tellings before and after, where the store tells; one that tells goes on telling
abbrev pub IfTold : Standing → Standing → (Told → Told → Type 0) → Type 0
IfTold old new holds = IfBoth old.told new.told holds

-- contents and what was said are as before
pub record IsKept (old new : Told) : Type 0 where
  pub files : new.files ≡ old.files
  pub said : new.said ≡ old.said

-- this text stands under this name, and the contents of all other names are as before
pub record IsWritten (name text : List ℕ) (old new : Files) : Type 0 where
  pub there : new name ≡ Some text
  pub others : (other : List ℕ) → other ≢ name → new other ≡ old other

-- one text begins another
abbrev pub IsFrontOf : List ℕ → List ℕ → Type 0
IsFrontOf front text = (rest : List ℕ) × (text ≡ front ++ rest)
