-- What stands at the front of a kernel text.
use Rattle.std.specs.Prelude.{List, ℕ, ◌≤◌, length, take, drop, IfSome}
use Rattle.kern_token.specs.declared.front.Front.{Front}
use Rattle.kern_token.specs.Pieces.{Piece, Begins}
use Rattle.kern_token.specs.Reading.{IsInLimit}

abbrev pub piece_of : List ℕ → Front → Piece
piece_of text front = record { kind = front.kind; bytes = take front.len text }

-- the text begins with a piece of this kind and length
pub record HasFront (text : List ℕ) (front : Front) : Type 0 where
  pub begins : Begins text (piece_of text front) (drop front.len text)
  pub inside : front.len ≤ length text
  pub in_limit : IfSome front.kind IsInLimit
