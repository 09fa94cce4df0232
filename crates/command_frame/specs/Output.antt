-- What a source of pieces gives, and what appending its pieces leaves.
use Rattle.std.specs.Prelude.{ℕ, ◌≡◌, ◌⊎◌, List, [], ◌∷◌, Option, option_map}
use Rattle.std.specs.List.{concat}
use Rattle.pf_io.specs.Store.{Told, after_write}
use Rattle.command_frame.specs.Standing.{IsFrontOf}
use Rattle.command_frame.specs.Status.{IsLast}
use Rattle.command_frame.specs.declared.output.Next.{Next}
use Rattle.command_frame.specs.declared.output.Next.TheVariants.{Piece, End, Memory}
use Rattle.command_frame.specs.declared.status.Status.{Status}
use Rattle.command_frame.specs.declared.status.Status.TheVariants.{StoreFault, Memory as NoMemory}
use Rattle.command_frame.specs.declared.status.StoreCall.TheVariants.{Write}

-- the next piece, or the status that ends the pieces where none is left
abbrev pub Gives : {R F : Type 0} → Next R F → List (List ℕ) → Status R F → List (List ℕ) → Status R F → Type 0
Gives (Piece piece) texts last later_texts later_last = (texts ≡ piece.items ∷ later_texts) × (later_last ≡ last)
Gives (End status) texts last later_texts later_last = (texts ≡ []) × (status ≡ last) × IsLast status
Gives Memory texts last later_texts later_last = Unit {0}

-- the pieces were appended to the sink, one after another
abbrev pub appended : List (List ℕ) → Told → Told
appended [] t = t
appended (piece ∷ pieces) t = appended pieces (after_write piece t)

-- all pieces were appended, or pieces that begin them
abbrev pub Appends : {R F : Type 0} → List (List ℕ) → Status R F → Status R F → Option Told → Option Told → Type 0
Appends texts last result old new =
    ((result ≡ last) × IsLast result × (new ≡ option_map (appended texts) old))
    ⊎ (((result ≡ StoreFault Write) ⊎ (result ≡ NoMemory))
    × (pieces : List (List ℕ)) × IsFrontOf (concat pieces) (concat texts) × (new ≡ option_map (appended pieces) old))
