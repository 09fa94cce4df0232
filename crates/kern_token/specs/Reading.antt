-- The tokens that a kernel text spells, or its first fault.
use Rattle.std.specs.Prelude.{◌≡◌, ℕ, ◌+◌, ◌<◌, ◌≤◌, ◌^◌, ◌⊎◌, List, [], ◌∷◌, ◌++◌, length, Option, Some, None, Result}
use Rattle.std.specs.Prelude.{Ok, Err, IfSome}
use Rattle.std.specs.List.{AllByRecursion, slice_range}
use Rattle.kern_token.specs.declared.fault.KernFault.{KernFault}
use Rattle.kern_token.specs.declared.fault.KernFault.TheVariants as faults
use Rattle.kern_token.specs.declared.token.Token.{Token}
use Rattle.kern_token.specs.declared.token.TokenKind.{TokenKind}
use Rattle.kern_token.specs.declared.token.TokenKind.TheVariants as kinds
use Rattle.kern_token.specs.Pieces.{Piece, IsPiece, IsToken, Begins}

-- a number is below 2^63
abbrev pub IsInLimit : TokenKind → Type 0
IsInLimit (kinds.Number number) = number < 2 ^ 63
IsInLimit (kinds.Name name) = Unit {0}
IsInLimit (kinds.Word word) = Unit {0}
IsInLimit (kinds.Scale scale) = Unit {0}
IsInLimit (kinds.Symbol symbol) = Unit {0}

-- the text is these pieces, each the longest at its place, and then the rest
abbrev pub Splits : List ℕ → List Piece → List ℕ → Type 0
Splits text [] rest = text ≡ rest
Splits text (piece ∷ pieces) rest =
    (after : List ℕ) × Begins text piece after × IfSome piece.kind IsInLimit × Splits after pieces rest

-- the place after the pieces that begin at this place
abbrev pub place_after : ℕ → List Piece → ℕ
place_after place [] = place
place_after place (piece ∷ pieces) = place_after (place + length piece.bytes) pieces

-- the token that is a piece from place to end, if it is one
abbrev pub token_of : ℕ → ℕ → Option TokenKind → List Token
token_of place end None = []
token_of place end (Some kind) = record { kind = kind; place = place; end = end } ∷ []

-- the tokens among the pieces that begin at this place
abbrev pub tokens_of : ℕ → List Piece → List Token
tokens_of place [] = []
tokens_of place (piece ∷ pieces) =
    token_of place (place + length piece.bytes) piece.kind ++ tokens_of (place + length piece.bytes) pieces

-- the whole text is pieces, and these tokens are among them
pub record Spells (text : List ℕ) (tokens : List Token) : Type 0 where
  pub pieces : List Piece
  pub whole : Splits text pieces []
  pub tokens_are : tokens ≡ tokens_of 0 pieces

-- no piece fits at the front of the text
pub record BeginsBadly (text : List ℕ) : Type 0 where
  pub nonempty : 0 < length text
  pub none_fits : (piece : Piece) (rest : List ℕ) → IsPiece piece → text ≡ piece.bytes ++ rest → ⊥

-- the text begins with a number of 2^63 or more
pub record BeginsTooLarge (text : List ℕ) : Type 0 where
  pub number : ℕ
  pub bytes : List ℕ
  pub rest : List ℕ
  pub begins : Begins text (record { kind = Some (kinds.Number number); bytes = bytes }) rest
  pub too_large : 2 ^ 63 ≤ number

-- the fault is that of a text that begins at this place
abbrev pub IsFaultAt : KernFault → ℕ → List ℕ → Type 0
IsFaultAt (faults.BadByte at) place text = (at ≡ place) × BeginsBadly text
IsFaultAt (faults.NumberTooLarge at) place text = (at ≡ place) × BeginsTooLarge text
IsFaultAt (faults.Unexpected at) place text = ⊥
IsFaultAt (faults.TooDeep at) place text = ⊥
IsFaultAt (faults.TooManyNodes at) place text = ⊥
IsFaultAt faults.Memory place text = ⊥

-- the fault stands after pieces that have none
pub record HasFirstTokenFault (text : List ℕ) (fault : KernFault) : Type 0 where
  pub pieces : List Piece
  pub rest : List ℕ
  pub before : Splits text pieces rest
  pub fault_is : IsFaultAt fault (place_after 0 pieces) rest

-- what reading the text answers
abbrev pub Reads : List ℕ → Result (List Token) KernFault → Type 0
Reads text (Ok tokens) = Spells text tokens
Reads text (Err fault) = HasFirstTokenFault text fault

-- the text from the token's place to its end is a token of its kind
pub record StandsIn (text : List ℕ) (token : Token) : Type 0 where
  pub nonempty : token.place < token.end
  pub inside : token.end ≤ length text
  pub spelled : IsToken token.kind (slice_range text token.place token.end)
  pub in_limit : IsInLimit token.kind

-- each token begins where the one before it ends, or later
abbrev pub AreInOrder : ℕ → List Token → Type 0
AreInOrder place [] = Unit {0}
AreInOrder place (token ∷ tokens) = (place ≤ token.place) × AreInOrder token.end tokens

-- what a call returned, seen by view, is this reading, unless memory ran out
abbrev pub GivesUnlessMemory : {X Y : Type 0} → (X → Y) → Result X KernFault → Result Y KernFault → Type 0
GivesUnlessMemory view (Ok x) reading = reading ≡ Ok (view x)
GivesUnlessMemory view (Err fault) reading = (fault ≡ faults.Memory) ⊎ (reading ≡ Err fault)

-- the tokens of a text stand in it, each where its place and end say
abbrev pub TokensStandInText : Type 0
TokensStandInText = (text : List ℕ) (tokens : List Token) → Spells text tokens → AllByRecursion (StandsIn text) tokens

-- and one after another
abbrev pub TokensAreInOrder : Type 0
TokensAreInOrder = (text : List ℕ) (tokens : List Token) → Spells text tokens → AreInOrder 0 tokens
