-- Steps of an evaluation, one after another: the first that has no value ends them.
use Rattle.std.specs.Prelude.{Bool, true, false, Result, Ok, Err, ℤ}
use Rattle.pf_num.specs.declared.fault.NumFault.{NumFault}
use Rattle.kern_meaning.specs.declared.stop.Stop.{Stop}
use Rattle.kern_meaning.specs.declared.stop.Stop.TheVariants as stops

-- a block `do` is a sequence of these
infixl 10 ◌>>=◌
abbrev pub ◌>>=◌ : {A B E : Type 0} → Result A E → (A → Result B E) → Result B E
Ok value >>= next = next value
Err stop >>= next = Err stop

-- the value of an expression, or what stopped the way to it
abbrev pub OrStop : Type 0 → Type 0
OrStop A = Result A Stop

-- a form that isn't listed has no result
abbrev pub no_result : {A : Type 0} → OrStop A
no_result = Err stops.NoResult

-- where the test holds; elsewhere there is no result
abbrev pub only_if : {A : Type 0} → Bool → OrStop A → OrStop A
only_if true answer = answer
only_if false answer = no_result

-- a number, or the fault of the operation
abbrev pub number_or_fault : Result ℤ NumFault → OrStop ℤ
number_or_fault (Ok number) = Ok number
number_or_fault (Err fault) = Err (stops.Fault fault)
