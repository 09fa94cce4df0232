-- Checks one after another: the first fault ends them.
use Rattle.std.specs.Prelude.{◌≡◌, ◌⊎◌, Bool, true, false, Result, Ok, Err, MatchResult}
use Rattle.kern_types.specs.declared.fault.TypeFault.{TypeFault}
use Rattle.kern_types.specs.declared.fault.TypeFault.TheVariants.{Memory}

-- a value, or the first fault on the way to it
abbrev pub OrFault : Type 0 → Type 0
OrFault A = Result A TypeFault

-- a block `do` is a sequence of these
infixl 10 ◌>>=◌
abbrev pub ◌>>=◌ : {A B : Type 0} → OrFault A → (A → OrFault B) → OrFault B
Ok value >>= next = next value
Err fault >>= next = Err fault

infixl 10 ◌>>◌
abbrev pub ◌>>◌ : {A B : Type 0} → OrFault A → OrFault B → OrFault B
first >> next = first >>= (λ _. next)

abbrev pub Check : Type 0
Check = OrFault (Unit {0})

abbrev pub pass : Check
pass = Ok tt

-- the fault, unless the test holds
abbrev pub unless : Bool → TypeFault → Check
unless true fault = pass
unless false fault = Err fault

-- what a call returned, and the value that it left, are this answer, unless memory ran out
abbrev pub LeavesAnswer : {A : Type 0} → Check → A → OrFault A → Type 0
LeavesAnswer result left answer =
    MatchResult result (λ _. answer ≡ Ok left) (λ fault. (fault ≡ Memory) ⊎ (answer ≡ Err fault))
