-- The tokens of a text stand in it one after another.
use Rattle.std.proofs.Common.{◌≡◌, ℕ, ◌+◌, ◌-◌, ◌≤◌, List, [], ◌∷◌, ◌++◌, length, take, drop, Option, Some, None, sym, refl, ap, ◌∙◌, subst, length-append, length-drop, arith}
use Rattle.std.specs.List.{AllByRecursion, slice_range}
use Rattle.std.specs.Prelude.{IfSome}
use Rattle.std.proofs.lemmas.List.{take_at, drop_at, drop-drop}
use Rattle.kern_token.specs.declared.token.Token.{Token}
use Rattle.kern_token.specs.declared.token.TokenKind.{TokenKind}
use Rattle.kern_token.specs.Pieces.{Piece, IsPiece, IsToken}
use Rattle.kern_token.specs.Reading.{IsInLimit, Splits, token_of, tokens_of, Spells, StandsIn, AreInOrder}
use Rattle.kern_token.proofs.FirstBytes.{IsPiece-nonempty}

-- what stands at the place, and what follows
record StandsAt (text : List ℕ) (place : ℕ) (bytes rest : List ℕ) : Type 0 where
  pub here : slice_range text place (place + length bytes) ≡ bytes
  pub next : drop (place + length bytes) text ≡ rest
  pub inside : place + length bytes ≤ length text

stands_at : (text : List ℕ) (place : ℕ) (bytes rest : List ℕ) → place ≤ length text → drop place text ≡ bytes ++ rest → StandsAt text place bytes rest
stands_at text place bytes rest within is =
    let width : place + length bytes - place ≡ length bytes = omega arith in
    record {
      here = ap (λ n. take n (drop place text)) width ∙ ap (take (length bytes)) is ∙ take_at bytes rest (length bytes) refl;
      next = sym (drop-drop (length bytes) place text) ∙ ap (drop (length bytes)) is ∙ drop_at bytes rest (length bytes) refl;
      inside = omega (arith, length-drop place text, ap length is, length-append bytes rest);
    }

token_stands : (text : List ℕ) (place : ℕ) (kind : TokenKind) (bytes rest : List ℕ) → StandsAt text place bytes rest → IsToken kind bytes → IsInLimit kind → StandsIn text (record { kind = kind; place = place; end = place + length bytes })
token_stands text place kind bytes rest stands token in_limit = record {
  nonempty = omega (arith, IsPiece-nonempty (Some kind) bytes token);
  inside = stands.inside;
  spelled = subst (IsToken kind) (sym stands.here) token;
  in_limit = in_limit;
}

with_first : (text : List ℕ) (place : ℕ) (kind : Option TokenKind) (bytes after : List ℕ) (tokens : List Token) → StandsAt text place bytes after → IsPiece (record { kind = kind; bytes = bytes }) → IfSome kind IsInLimit → AllByRecursion (StandsIn text) tokens → AllByRecursion (StandsIn text) (token_of place (place + length bytes) kind ++ tokens)
with_first text place None bytes after tokens stands piece in_limit others = others
with_first text place (Some kind) bytes after tokens stands piece in_limit others =
    (token_stands text place kind bytes after stands piece in_limit, others)

all_stand : (text rest : List ℕ) (place : ℕ) (pieces : List Piece) → place ≤ length text → drop place text ≡ rest → Splits rest pieces [] → AllByRecursion (StandsIn text) (tokens_of place pieces)
all_stand text rest place [] within is split = tt
all_stand text rest place (piece ∷ pieces) within is split =
    let stands = stands_at text place piece.bytes split.0 within (is ∙ split.1.front) in
    with_first text place piece.kind piece.bytes split.0 (tokens_of (place + length piece.bytes) pieces) stands split.1.whole split.2
    (all_stand text split.0 (place + length piece.bytes) pieces stands.inside stands.next split.3)

in_order_first : (low place : ℕ) (kind : Option TokenKind) (size : ℕ) (tokens : List Token) → low ≤ place → ((from : ℕ) → from ≤ place + size → AreInOrder from tokens) → AreInOrder low (token_of place (place + size) kind ++ tokens)
in_order_first low place None size tokens above others = others low (omega arith)
in_order_first low place (Some kind) size tokens above others = (above, others (place + size) (omega arith))

in_order_from : (low place : ℕ) (pieces : List Piece) → low ≤ place → AreInOrder low (tokens_of place pieces)
in_order_from low place [] above = tt
in_order_from low place (piece ∷ pieces) above =
    in_order_first low place piece.kind (length piece.bytes) (tokens_of (place + length piece.bytes) pieces) above
    (λ from upto. in_order_from from (place + length piece.bytes) pieces upto)

pub Spells-stand : (text : List ℕ) (tokens : List Token) → Spells text tokens → AllByRecursion (StandsIn text) tokens
Spells-stand text tokens spells =
    subst (AllByRecursion (StandsIn text)) (sym spells.tokens_are) (all_stand text text 0 spells.pieces (omega arith) refl spells.whole)

pub Spells-in_order : (text : List ℕ) (tokens : List Token) → Spells text tokens → AreInOrder 0 tokens
Spells-in_order text tokens spells = subst (AreInOrder 0) (sym spells.tokens_are) (in_order_from 0 0 spells.pieces (omega arith))
