-- A piece that the next byte stops is the longest at its place.
use Rattle.std.proofs.Common.{◌≡◌, ◌≢◌, ℕ, ◌+◌, ◌≤◌, Bool, true, false, List, [], ◌∷◌, ◌++◌, length, Option, Some, None, sym, refl, ap, ◌∙◌, subst, ◌⊎◌, inl, inr, ⊎_elim, append_assoc, length-append, take, arith}
use Rattle.std.proofs.lemmas.Bool.Decides.{nat_tests}
use Rattle.std.proofs.lemmas.List.{length_push, take_at}
use Rattle.std.specs.Char.{is_ascii_digit}
use Rattle.std.specs.List.{AllByRecursion, prefix_len}
use Rattle.kern_token.specs.declared.token.Symbol.{Symbol}
use Rattle.kern_token.specs.declared.token.TokenKind.{TokenKind}
use Rattle.kern_token.specs.declared.token.TokenKind.TheVariants as kinds
use Rattle.kern_token.specs.Pieces.{Piece, IsPiece, Begins, is_name_byte, is_space}
use Rattle.kern_token.specs.Spelling.{symbol_text}
use Rattle.kern_token.specs.Stopping.{StopsBefore}
use Rattle.kern_token.proofs.FirstBytes.{class_of, class_of_kind, class_of_piece, class_of-blank, name_start_from_class, digit_from_class, symbol_size, IsPiece-nonempty}
use Rattle.kern_token.proofs.RunLemmas.{EachPasses, at_front, is_line_byte, length-le-prefix_len, name_fronts, digit_fronts, comment_fronts}

-- the rest doesn't begin with a byte that passes
abbrev EndsRun : (ℕ → Bool) → List ℕ → Type 0
EndsRun test [] = Unit {0}
EndsRun test (b ∷ rest) = test b ≡ false

prefix_len-append_end : (test : ℕ → Bool) (xs ys : List ℕ) → EachPasses test xs → EndsRun test ys → prefix_len test (xs ++ ys) ≡ length xs
prefix_len-append_end test [] [] all ends = refl
prefix_len-append_end test [] (y ∷ ys) all ends = let fails : test y ≡ false = ends in rw fails refl
prefix_len-append_end test (x ∷ xs) ys all ends =
    let passes : test x ≡ true = all.0 in
    rw passes (omega (arith, prefix_len-append_end test xs ys all.1 ends))

-- a run that ends there is the longest, where every piece that begins the text is such a run
run_stops : (test : ℕ → Bool) (piece : Piece) (rest : List ℕ) → IsPiece piece → EndsRun test rest → ((other : Piece) (after : List ℕ) → IsPiece other → piece.bytes ++ rest ≡ other.bytes ++ after → EachPasses test other.bytes) → Begins (piece.bytes ++ rest) piece rest
run_stops test piece rest whole ends runs =
    let here = prefix_len-append_end test piece.bytes rest (runs piece rest whole refl) ends in
    record {
      whole = whole;
      front = refl;
      longest = λ other after other_piece front.
          let shorter = length-le-prefix_len test other.bytes after (runs other after other_piece front) in
          let same : prefix_len test (piece.bytes ++ rest) ≡ prefix_len test (other.bytes ++ after) = ap (prefix_len test) front in
          omega arith;
    }

not_blank_and_hash : (b : ℕ) → is_space b ≡ true → b ≡ 35 → ⊥
not_blank_and_hash b blank hash = grind (arith, nat_tests)

blank_piece : (kind : Option TokenKind) (b : ℕ) (bytes : List ℕ) → is_space b ≡ true → 0 ≡ class_of_kind kind → IsPiece (record { kind = kind; bytes = b ∷ bytes }) → length (b ∷ bytes) ≤ 1
blank_piece None b bytes blank same piece =
    ⊎_elim
    (λ (one : (is_space b ≡ true) × (bytes ≡ [])). omega (arith, ap length one.1))
    (λ comment. absurd (not_blank_and_hash b blank comment.0))
    piece
blank_piece (Some (kinds.Name name)) b bytes blank same piece = absurd (omega arith)
blank_piece (Some (kinds.Word word)) b bytes blank same piece = absurd (omega arith)
blank_piece (Some (kinds.Scale scale)) b bytes blank same piece = absurd (omega arith)
blank_piece (Some (kinds.Number number)) b bytes blank same piece = absurd (omega arith)
blank_piece (Some (kinds.Symbol symbol)) b bytes blank same piece = absurd (omega arith)

-- a blank is a piece by itself
pub Begins-blank : (b : ℕ) (text : List ℕ) → is_space b ≡ true → Begins (b ∷ text) (record { kind = None; bytes = b ∷ [] }) text
Begins-blank b text blank = record {
  whole = inl (blank, refl);
  front = refl;
  longest = λ other after other_piece front.
      at_front (λ bytes. length bytes ≤ 1) b text (omega arith)
      (λ kind bytes piece. blank_piece kind b bytes blank (sym (class_of-blank b blank) ∙ class_of_piece kind b bytes piece) piece)
      other.kind other.bytes after other_piece front;
}

-- nothing, or the bytes of a symbol
abbrev pub IsSymbolOrNone : List ℕ → Type 0
IsSymbolOrNone bytes = (bytes ≡ []) ⊎ ((symbol : Symbol) × (bytes ≡ symbol_text symbol))

symbol_piece : (kind : Option TokenKind) (b : ℕ) (bytes : List ℕ) → class_of b ≡ 3 → class_of b ≡ class_of_kind kind → IsPiece (record { kind = kind; bytes = b ∷ bytes }) → IsSymbolOrNone (b ∷ bytes)
symbol_piece None b bytes class same piece = absurd (omega arith)
symbol_piece (Some (kinds.Name name)) b bytes class same piece = absurd (omega arith)
symbol_piece (Some (kinds.Word word)) b bytes class same piece = absurd (omega arith)
symbol_piece (Some (kinds.Scale scale)) b bytes class same piece = absurd (omega arith)
symbol_piece (Some (kinds.Number number)) b bytes class same piece = absurd (omega arith)
symbol_piece (Some (kinds.Symbol symbol)) b bytes class same piece = inr (symbol, piece)

pub symbol_fronts : (b : ℕ) (text : List ℕ) → class_of b ≡ 3 → (other : Piece) (after : List ℕ) → IsPiece other → b ∷ text ≡ other.bytes ++ after → IsSymbolOrNone other.bytes
symbol_fronts b text class other after =
    at_front IsSymbolOrNone b text (inl refl)
    (λ kind bytes piece. symbol_piece kind b bytes class (class_of_piece kind b bytes piece) piece)
    other.kind other.bytes after

longer : (symbol other : Symbol) (rest after : List ℕ) → length (symbol_text symbol) ≡ 1 → length (symbol_text other) ≡ 2 → StopsBefore (record { kind = Some (kinds.Symbol symbol); bytes = symbol_text symbol }) rest → symbol_text symbol ++ rest ≡ symbol_text other ++ after → ⊥
longer symbol other [] after one two stops front =
    omega (arith, ap length front, length-append (symbol_text symbol) [], length-append (symbol_text other) after)
longer symbol other (next ∷ rest) after one two stops front =
    let grown : List ℕ = symbol_text symbol ++ next ∷ [] in
    let grown_size : length grown ≡ 2 = length_push (symbol_text symbol) next ∙ ap (λ n. n + 1) one in
    stops other
    (sym (take_at (symbol_text other) after 2 two)
    ∙ ap (take 2) (sym front ∙ sym (append_assoc (symbol_text symbol) (next ∷ []) rest))
    ∙ take_at grown rest 2 grown_size)

-- a symbol that begins the text is no longer than one that the next byte stops
symbol_longest : (symbol other : Symbol) (rest after : List ℕ) → StopsBefore (record { kind = Some (kinds.Symbol symbol); bytes = symbol_text symbol }) rest → symbol_text symbol ++ rest ≡ symbol_text other ++ after → length (symbol_text other) ≤ length (symbol_text symbol)
symbol_longest symbol other rest after stops front =
    let size = ap length front in
    ⊎_elim
    (λ (one : length (symbol_text symbol) ≡ 1). ⊎_elim
    (λ (other_one : length (symbol_text other) ≡ 1). omega arith)
    (λ (other_two : length (symbol_text other) ≡ 2). absurd (longer symbol other rest after one other_two stops front))
    (symbol_size other))
    (λ (two : length (symbol_text symbol) ≡ 2). ⊎_elim
    (λ (other_one : length (symbol_text other) ≡ 1). omega arith)
    (λ (other_two : length (symbol_text other) ≡ 2). omega arith)
    (symbol_size other))
    (symbol_size symbol)

symbol_stops : (symbol : Symbol) (b : ℕ) (bytes rest : List ℕ) → b ∷ bytes ≡ symbol_text symbol → StopsBefore (record { kind = Some (kinds.Symbol symbol); bytes = b ∷ bytes }) rest → Begins ((b ∷ bytes) ++ rest) (record { kind = Some (kinds.Symbol symbol); bytes = b ∷ bytes }) rest
symbol_stops symbol b bytes rest is stops = record {
  whole = is;
  front = refl;
  longest = λ other after other_piece front.
      ⊎_elim
      (λ (none : other.bytes ≡ []). omega (arith, ap length none))
      (λ (other_symbol : (t : Symbol) × (other.bytes ≡ symbol_text t)).
      let shorter = symbol_longest symbol other_symbol.0 rest after
      (subst (λ bs. StopsBefore (record { kind = Some (kinds.Symbol symbol); bytes = bs }) rest) is stops)
      (ap (λ bs. bs ++ rest) (sym is) ∙ front ∙ ap (λ bs. bs ++ after) other_symbol.1) in
      omega (arith, ap length is, ap length other_symbol.1))
      (symbol_fronts b (bytes ++ rest) (class_of_piece (Some (kinds.Symbol symbol)) b bytes is) other after other_piece front);
}

name_ends : (rest : List ℕ) (kind : TokenKind) (bytes : List ℕ) → class_of_kind (Some kind) ≡ 1 → StopsBefore (record { kind = Some kind; bytes = bytes }) rest → EndsRun is_name_byte rest
name_ends [] kind bytes class stops = tt
name_ends (next ∷ rest) (kinds.Name name) bytes class stops = stops
name_ends (next ∷ rest) (kinds.Word word) bytes class stops = stops
name_ends (next ∷ rest) (kinds.Scale scale) bytes class stops = stops
name_ends (next ∷ rest) (kinds.Number number) bytes class stops = absurd (omega arith)
name_ends (next ∷ rest) (kinds.Symbol symbol) bytes class stops = absurd (omega arith)

name_stops : (kind : TokenKind) (b : ℕ) (bytes rest : List ℕ) → class_of_kind (Some kind) ≡ 1 → IsPiece (record { kind = Some kind; bytes = b ∷ bytes }) → StopsBefore (record { kind = Some kind; bytes = b ∷ bytes }) rest → Begins ((b ∷ bytes) ++ rest) (record { kind = Some kind; bytes = b ∷ bytes }) rest
name_stops kind b bytes rest class piece stops =
    let start = name_start_from_class b (class_of_piece (Some kind) b bytes piece ∙ class) in
    run_stops is_name_byte (record { kind = Some kind; bytes = b ∷ bytes }) rest piece (name_ends rest kind (b ∷ bytes) class stops) (name_fronts b (bytes ++ rest) start)

digits_end : (rest : List ℕ) (number : ℕ) (bytes : List ℕ) → StopsBefore (record { kind = Some (kinds.Number number); bytes = bytes }) rest → EndsRun is_ascii_digit rest
digits_end [] number bytes stops = tt
digits_end (next ∷ rest) number bytes stops = stops

line_ends : (rest : List ℕ) (b : ℕ) (bytes : List ℕ) → b ≡ 35 → StopsBefore (record { kind = None; bytes = b ∷ bytes }) rest → EndsRun is_line_byte rest
line_ends [] b bytes hash stops = tt
line_ends (next ∷ rest) b bytes hash stops = ap is_line_byte (stops hash)

begins_at : (kind : Option TokenKind) (bytes rest : List ℕ) → IsPiece (record { kind = kind; bytes = bytes }) → StopsBefore (record { kind = kind; bytes = bytes }) rest → Begins (bytes ++ rest) (record { kind = kind; bytes = bytes }) rest
begins_at kind [] rest piece stops = absurd (omega (arith, IsPiece-nonempty kind [] piece))
begins_at None (b ∷ bytes) rest piece stops =
    ⊎_elim
    (λ (blank : (is_space b ≡ true) × (bytes ≡ [])).
    subst (λ (bs : List ℕ). Begins ((b ∷ bs) ++ rest) (record { kind = None; bytes = b ∷ bs }) rest) (sym blank.1) (Begins-blank b rest blank.0))
    (λ (comment : (b ≡ 35) × AllByRecursion (λ c. c ≢ 10) bytes).
    run_stops is_line_byte (record { kind = None; bytes = b ∷ bytes }) rest piece (line_ends rest b bytes comment.0 stops) (comment_fronts b (bytes ++ rest) comment.0))
    piece
begins_at (Some (kinds.Name name)) (b ∷ bytes) rest piece stops = name_stops (kinds.Name name) b bytes rest refl piece stops
begins_at (Some (kinds.Word word)) (b ∷ bytes) rest piece stops = name_stops (kinds.Word word) b bytes rest refl piece stops
begins_at (Some (kinds.Scale scale)) (b ∷ bytes) rest piece stops = name_stops (kinds.Scale scale) b bytes rest refl piece stops
begins_at (Some (kinds.Number number)) (b ∷ bytes) rest piece stops =
    let digit = digit_from_class b (class_of_piece (Some (kinds.Number number)) b bytes piece) in
    run_stops is_ascii_digit (record { kind = Some (kinds.Number number); bytes = b ∷ bytes }) rest piece (digits_end rest number (b ∷ bytes) stops) (digit_fronts b (bytes ++ rest) digit)
begins_at (Some (kinds.Symbol symbol)) (b ∷ bytes) rest piece stops = symbol_stops symbol b bytes rest piece stops

pub Begins-stopped : (piece : Piece) (rest : List ℕ) → IsPiece piece → StopsBefore piece rest → Begins (piece.bytes ++ rest) piece rest
Begins-stopped piece rest whole stops = begins_at piece.kind piece.bytes rest whole stops
