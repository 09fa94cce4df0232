-- A text that has been split into pieces as far as some place.
use Rattle.std.proofs.Common.{◌≡◌, ℕ, ◌+◌, ◌<◌, List, [], ◌∷◌, ◌++◌, length, take, drop, sym, refl, ap, ◌∙◌, subst, append_assoc, append-nil, length-take-le, length-drop, arith}
use Rattle.std.proofs.lemmas.List.{nil_from_length}
use Rattle.std.specs.Prelude.{IfSome}
use Rattle.kern_token.specs.declared.fault.KernFault.{KernFault}
use Rattle.kern_token.specs.declared.front.Front.{Front}
use Rattle.kern_token.specs.declared.token.Token.{Token}
use Rattle.kern_token.specs.Front.{HasFront, piece_of}
use Rattle.kern_token.specs.Pieces.{Piece, Begins}
use Rattle.kern_token.specs.Reading.{IsInLimit, Splits, place_after, token_of, tokens_of, Spells, IsFaultAt, HasFirstTokenFault}
use Rattle.kern_token.proofs.FirstBytes.{IsPiece-nonempty}

-- the pieces before this place have these tokens, and the rest follows
pub record HasRead (text : List ℕ) (tokens : List Token) (place : ℕ) (rest : List ℕ) : Type 0 where
  pub pieces : List Piece
  pub before : Splits text pieces rest
  pub tokens_are : tokens ≡ tokens_of 0 pieces
  pub place_is : place ≡ place_after 0 pieces
  pub length_is : place + length rest ≡ length text

pub HasRead-none : (text : List ℕ) → HasRead text [] 0 text
HasRead-none text = record {
  pieces = [];
  before = refl;
  tokens_are = refl;
  place_is = refl;
  length_is = omega arith;
}

Splits-push : (text rest after : List ℕ) (pieces : List Piece) (piece : Piece) → Splits text pieces rest → Begins rest piece after → IfSome piece.kind IsInLimit → Splits text (pieces ++ piece ∷ []) after
Splits-push text rest after [] piece split begins in_limit =
    (after, subst (λ t. Begins t piece after) (sym split) begins, in_limit, refl)
Splits-push text rest after (first ∷ pieces) piece split begins in_limit =
    (split.0, split.1, split.2, Splits-push split.0 rest after pieces piece split.3 begins in_limit)

end_of-push : (place : ℕ) (pieces : List Piece) (piece : Piece) → place_after place (pieces ++ piece ∷ []) ≡ place_after place pieces + length piece.bytes
end_of-push place [] piece = refl
end_of-push place (first ∷ pieces) piece = end_of-push (place + length first.bytes) pieces piece

tokens_of-push : (place : ℕ) (pieces : List Piece) (piece : Piece) → tokens_of place (pieces ++ piece ∷ []) ≡ tokens_of place pieces ++ token_of (place_after place pieces) (place_after place pieces + length piece.bytes) piece.kind
tokens_of-push place [] piece = append-nil (token_of place (place + length piece.bytes) piece.kind)
tokens_of-push place (first ∷ pieces) piece =
    let end : ℕ = place + length first.bytes in
    let first_tokens : List Token = token_of place end first.kind in
    let last_tokens : List Token = token_of (place_after end pieces) (place_after end pieces + length piece.bytes) piece.kind in
    ap (λ ts. first_tokens ++ ts) (tokens_of-push end pieces piece)
    ∙ sym (append_assoc first_tokens (tokens_of end pieces) last_tokens)

-- one more piece
pub HasRead-more : (text : List ℕ) (tokens : List Token) (place : ℕ) (rest : List ℕ) (front : Front) → HasRead text tokens place rest → HasFront rest front → HasRead text (tokens ++ token_of place (place + front.len) front.kind) (place + front.len) (drop front.len rest)
HasRead-more text tokens place rest front read has =
    let piece = piece_of rest front in
    let size : length (take front.len rest) ≡ front.len = length-take-le front.len rest has.inside in
    record {
      pieces = read.pieces ++ piece ∷ [];
      before = Splits-push text rest (drop front.len rest) read.pieces piece read.before has.begins has.in_limit;
      tokens_are =
          (λ i. read.tokens_are i ++ token_of (read.place_is i) (read.place_is i + sym size i) front.kind)
          ∙ sym (tokens_of-push 0 read.pieces piece);
      place_is = (λ i. read.place_is i + sym size i) ∙ sym (end_of-push 0 read.pieces piece);
      length_is = omega (arith, length-drop front.len rest, read.length_is, has.inside);
    }

pub HasRead-all : (text : List ℕ) (tokens : List Token) (place : ℕ) (rest : List ℕ) → HasRead text tokens place rest → length rest ≡ 0 → Spells text tokens
HasRead-all text tokens place rest read empty = record {
  pieces = read.pieces;
  whole = subst (Splits text read.pieces) (nil_from_length rest empty) read.before;
  tokens_are = read.tokens_are;
}

pub HasRead-fault : (text : List ℕ) (tokens : List Token) (place : ℕ) (rest : List ℕ) (fault : KernFault) → HasRead text tokens place rest → IsFaultAt fault place rest → HasFirstTokenFault text fault
HasRead-fault text tokens place rest fault read at = record {
  pieces = read.pieces;
  rest = rest;
  before = read.before;
  fault_is = subst (λ p. IsFaultAt fault p rest) read.place_is at;
}

pub HasFront-nonempty : (text : List ℕ) (front : Front) → HasFront text front → 0 < front.len
HasFront-nonempty text front has =
    let some = IsPiece-nonempty front.kind (take front.len text) has.begins.whole in
    omega (arith, length-take-le front.len text has.inside)
