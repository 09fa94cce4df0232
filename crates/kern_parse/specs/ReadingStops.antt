-- Where a reading of a kernel's tokens stops that goes by the next token alone, and what parsing answers.
use Rattle.std.specs.Prelude.{◌≡◌, ◌↔◌, ℕ, cond, List, [], ◌∷◌, Option, Some, None, Result}
use Rattle.kern_token.specs.declared.fault.KernFault.{KernFault}
use Rattle.kern_token.specs.declared.fault.KernFault.TheVariants as faults
use Rattle.kern_token.specs.declared.token.Token.{Token}
use Rattle.kern_token.specs.Reading.{Spells}
use Rattle.kern_tree.specs.declared.kernel.Kernel.{Kernel}
use Rattle.kern_tree.specs.FirstFault.{end_of_tokens, HasFault, Parses}
use Rattle.kern_parse.specs.Required.{Part, Move, moves, are_optional}

-- at a token that stands at this place: what the grammar tells, and where the reading stops later
abbrev pub stop_here : ℕ → Option Move → (List Part → Option ℕ) → Option ℕ
stop_here place None later = Some place
stop_here place (Some found) later = later found.then

-- the place of the first token that can't begin what is required there, or this end where the tokens
-- run out while something is required
unfoldable pub stop_from : ℕ → List Part → List Token → Option ℕ
stop_from end parts [] = cond (are_optional parts) None (Some end)
stop_from end parts (token ∷ rest) = stop_here token.place (moves parts token.kind) (λ thens. stop_from end thens rest)

-- of a kernel, which is declarations and then statements
abbrev pub reading_stop : List Token → Option ℕ
reading_stop tokens = stop_from (end_of_tokens tokens) (Part.Decls ∷ Part.Stmts ∷ []) tokens

-- Unexpected stands where the reading stops, and nowhere else
abbrev pub UnexpectedIsTheStop : Type 0
UnexpectedIsTheStop =
    (tokens : List Token) (place : ℕ) → HasFault tokens (faults.Unexpected place) ↔ (reading_stop tokens ≡ Some place)

-- the tokens of every text are a kernel's or have a first fault
abbrev pub SomeAnswer : Type 0
SomeAnswer =
    (text : List ℕ) (tokens : List Token) → Spells text tokens
    → (answer : Result Kernel KernFault) × Parses tokens answer
