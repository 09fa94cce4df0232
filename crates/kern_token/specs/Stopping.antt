-- Where a piece of a kernel text stops: at a byte that can't go on with it.
use Rattle.std.specs.Prelude.{◌≡◌, ◌≢◌, ℕ, IsFalse, List, [], ◌∷◌, ◌++◌, Option, Some, None, slice_index}
use Rattle.std.specs.Char.{is_ascii_digit}
use Rattle.kern_token.specs.declared.token.Symbol.{Symbol}
use Rattle.kern_token.specs.declared.token.TokenKind.{TokenKind}
use Rattle.kern_token.specs.declared.token.TokenKind.TheVariants as kinds
use Rattle.kern_token.specs.Pieces.{Piece, is_name_byte}
use Rattle.kern_token.specs.Spelling.{symbol_text}

-- the next byte can't go on with these bytes, which are a piece of this kind
abbrev pub IsStoppedBy : Option TokenKind → List ℕ → ℕ → Type 0
IsStoppedBy None bytes next = slice_index bytes 0 ≡ 35 → next ≡ 10
IsStoppedBy (Some (kinds.Name name)) bytes next = IsFalse (is_name_byte next)
IsStoppedBy (Some (kinds.Word word)) bytes next = IsFalse (is_name_byte next)
IsStoppedBy (Some (kinds.Scale scale)) bytes next = IsFalse (is_name_byte next)
IsStoppedBy (Some (kinds.Number number)) bytes next = IsFalse (is_ascii_digit next)
IsStoppedBy (Some (kinds.Symbol symbol)) bytes next = (other : Symbol) → symbol_text other ≢ bytes ++ next ∷ []

abbrev pub StopsBefore : Piece → List ℕ → Type 0
StopsBefore piece [] = Unit {0}
StopsBefore piece (next ∷ rest) = IsStoppedBy piece.kind piece.bytes next
