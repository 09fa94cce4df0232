-- Every text has a reading.
use Rattle.std.proofs.Common.{◌≡◌, ◌≢◌, ℕ, zero, suc, ◌<◌, ◌≤◌, ◌^◌, true, false, List, [], ◌∷◌, ◌++◌, length, take, drop, Some, None, Result, Ok, Err, sym, refl, ap, ◌∙◌, subst, ◌⊎◌, inl, inr, ⊎_elim, length-append, arith}
use Rattle.std.specs.Prelude.{IfSome, take_while}
use Rattle.std.specs.Char.{is_ascii_digit}
use Rattle.std.specs.Fmt.{decimal}
use Rattle.std.specs.Str.{bytes_eq}
use Rattle.std.specs.Str.Parse.{digits_value}
use Rattle.std.proofs.lemmas.Bool.{cases_Bool, cases_eq, cases_lt}
use Rattle.std.proofs.lemmas.Bool.Decides.{nat_tests}
use Rattle.std.proofs.lemmas.List.{take_at}
use Rattle.std.proofs.lemmas.Slice.Eq.{bytes_eq-Decides}
use Rattle.kern_token.specs.declared.fault.KernFault.{KernFault}
use Rattle.kern_token.specs.declared.fault.KernFault.TheVariants as faults
use Rattle.kern_token.specs.declared.token.Token.{Token}
use Rattle.kern_token.specs.declared.token.TokenKind.{TokenKind}
use Rattle.kern_token.specs.declared.token.TokenKind.TheVariants as kinds
use Rattle.kern_token.specs.declared.token.Word.{Word}
use Rattle.kern_token.specs.declared.token.Symbol.{Symbol}
use Rattle.kern_token.specs.Pieces.{Piece, Begins, IsScale, IsNameLike, IsToken, is_space, is_name_start, is_name_byte}
use Rattle.kern_token.specs.Reading.{IsInLimit, Splits, place_after, tokens_of, BeginsBadly, BeginsTooLarge, Reads}
use Rattle.kern_token.specs.Spelling.{word_text, symbol_text}
use Rattle.kern_token.specs.Stopping.{StopsBefore}
use Rattle.kern_token.proofs.FirstBytes.{class_of, symbol_size, IsPiece-nonempty}
use Rattle.kern_token.proofs.Tables.{word_or_none, symbol_or_none}
use Rattle.kern_token.proofs.RunLemmas.{is_line_byte, Begins-name, Begins-digits, Begins-comment, IsNameLike-front, IsNumeral-front}
use Rattle.kern_token.proofs.StoppingLemmas.{Begins-blank, Begins-stopped, symbol_fronts}

same_or_other : (xs ys : List ℕ) → (xs ≡ ys) ⊎ (xs ≡ ys → ⊥)
same_or_other xs ys =
    let decides = bytes_eq-Decides xs ys in
    ⊎_elim (λ same. inl (decides.0 same)) (λ (apart : bytes_eq xs ys ≡ false). inr (λ same. let test = decides.1 same in cc)) (cases_Bool (bytes_eq xs ys))

-- a scale up to this one has the text, or none has
scale_below : (n : ℕ) (text : List ℕ) → ((scale : ℕ) × (scale < n) × (text ≡ 83 ∷ decimal scale)) ⊎ ((scale : ℕ) → scale < n → text ≢ 83 ∷ decimal scale)
scale_below zero text = inr (λ scale low is. absurd (omega arith))
scale_below (suc n) text =
    ⊎_elim
    (λ (found : (scale : ℕ) × (scale < n) × (text ≡ 83 ∷ decimal scale)). inl (found.0, omega (arith, found.1), found.2))
    (λ none. ⊎_elim
    (λ (same : text ≡ 83 ∷ decimal n). inl (n, omega arith, same))
    (λ (other : text ≡ 83 ∷ decimal n → ⊥). inr (λ scale low is. ⊎_elim
    (λ (last : scale ≡ n). other (is ∙ ap (λ k. 83 ∷ decimal k) last))
    (λ (before : scale ≡ n → ⊥). none scale (omega arith) is)
    (cases_eq scale n)))
    (same_or_other text (83 ∷ decimal n)))
    (scale_below n text)

scale_or_none : (text : List ℕ) → ((scale : ℕ) × IsScale scale text) ⊎ ((scale : ℕ) → IsScale scale text → ⊥)
scale_or_none text =
    ⊎_elim
    (λ (found : (scale : ℕ) × (scale < 63) × (text ≡ 83 ∷ decimal scale)). inl (found.0, record { limit = omega (arith, found.1); spelled = found.2 }))
    (λ none. inr (λ scale is. none scale (omega (arith, is.limit)) is.spelled))
    (scale_below 63 text)

-- the token that bytes like a name are
record IsSomeToken (bytes : List ℕ) : Type 0 where
  pub kind : TokenKind
  pub token : IsToken kind bytes
  pub in_limit : IsInLimit kind

name_like_token : (bytes : List ℕ) → IsNameLike bytes → IsSomeToken bytes
name_like_token bytes name_like =
    ⊎_elim
    (λ (word : (w : Word) × (bytes ≡ word_text w)). record { kind = kinds.Word word.0; token = word.1; in_limit = tt })
    (λ no_word. ⊎_elim
    (λ (scale : (k : ℕ) × IsScale k bytes). record { kind = kinds.Scale scale.0; token = scale.1; in_limit = tt })
    (λ no_scale. record { kind = kinds.Name bytes; token = (refl, record { name_like = name_like; no_word = no_word; no_scale = no_scale }); in_limit = tt })
    (scale_or_none bytes))
    (word_or_none bytes)

-- what may stand at the front of a text: a piece that may be read
record HasPiece (text : List ℕ) : Type 0 where
  pub piece : Piece
  pub rest : List ℕ
  pub begins : Begins text piece rest
  pub in_limit : IfSome piece.kind IsInLimit

-- or else a fault
abbrev IsFaulty : List ℕ → Type 0
IsFaulty text = BeginsBadly text ⊎ BeginsTooLarge text

abbrev HasFront : List ℕ → Type 0
HasFront text = HasPiece text ⊎ IsFaulty text

name_front : (b : ℕ) (text : List ℕ) → is_name_start b ≡ true → HasFront (b ∷ text)
name_front b text start =
    let size : ℕ = length (take_while is_name_byte (b ∷ text)) in
    let found = name_like_token (take size (b ∷ text)) (IsNameLike-front (b ∷ text) size refl (omega arith) start) in
    inl (record {
      piece = record { kind = Some found.kind; bytes = take size (b ∷ text) };
      rest = drop size (b ∷ text);
      begins = Begins-name (b ∷ text) found.kind size refl (omega arith) start found.token;
      in_limit = found.in_limit;
    })

digits_front : (b : ℕ) (text : List ℕ) → is_ascii_digit b ≡ true → HasFront (b ∷ text)
digits_front b text digit =
    let size : ℕ = length (take_while is_ascii_digit (b ∷ text)) in
    let number : ℕ = digits_value 10 (take size (b ∷ text)) in
    let begins = Begins-digits (b ∷ text) (kinds.Number number) size refl (omega arith) digit (IsNumeral-front (b ∷ text) size refl (omega arith) digit, refl) in
    ⊎_elim
    (λ (small : number < 2 ^ 63). inl (record {
      piece = record { kind = Some (kinds.Number number); bytes = take size (b ∷ text) };
      rest = drop size (b ∷ text);
      begins = begins;
      in_limit = small;
    }))
    (λ (large : 2 ^ 63 ≤ number). inr (inr (record { number = number; bytes = take size (b ∷ text); rest = drop size (b ∷ text); begins = begins; too_large = large })))
    (cases_lt number (2 ^ 63))

comment_front : (b : ℕ) (text : List ℕ) → b ≡ 35 → HasFront (b ∷ text)
comment_front b text hash =
    let size : ℕ = length (take_while is_line_byte (b ∷ text)) in
    inl (record {
      piece = record { kind = None; bytes = take size (b ∷ text) };
      rest = drop size (b ∷ text);
      begins = Begins-comment (b ∷ text) size refl (omega arith) hash;
      in_limit = tt;
    })

blank_front : (b : ℕ) (text : List ℕ) → is_space b ≡ true → HasFront (b ∷ text)
blank_front b text blank =
    inl (record { piece = record { kind = None; bytes = b ∷ [] }; rest = text; begins = Begins-blank b text blank; in_limit = tt })

no_two_bytes : (b : ℕ) (text : List ℕ) (symbol : Symbol) (after : List ℕ) → length (symbol_text symbol) ≡ 2 → ((symbol : Symbol) (c : ℕ) (rest : List ℕ) → text ≡ c ∷ rest → b ∷ c ∷ [] ≢ symbol_text symbol) → b ∷ text ≡ symbol_text symbol ++ after → ⊥
no_two_bytes b [] symbol after two no_two split = omega (arith, ap length split, length-append (symbol_text symbol) after)
no_two_bytes b (c ∷ rest) symbol after two no_two split =
    no_two symbol c rest refl (ap (take 2) split ∙ take_at (symbol_text symbol) after 2 two)

one_symbol : (b : ℕ) (rest : List ℕ) (symbol : Symbol) → b ∷ [] ≡ symbol_text symbol → StopsBefore (record { kind = Some (kinds.Symbol symbol); bytes = b ∷ [] }) rest → HasPiece (b ∷ rest)
one_symbol b rest symbol is stops = record {
  piece = record { kind = Some (kinds.Symbol symbol); bytes = b ∷ [] };
  rest = rest;
  begins = Begins-stopped (record { kind = Some (kinds.Symbol symbol); bytes = b ∷ [] }) rest is stops;
  in_limit = tt;
}

two_stop : (b c : ℕ) (rest : List ℕ) (symbol : Symbol) → StopsBefore (record { kind = Some (kinds.Symbol symbol); bytes = b ∷ c ∷ [] }) rest
two_stop b c [] symbol = tt
two_stop b c (next ∷ rest) symbol = λ other is.
    let size = ap length is in
    ⊎_elim (λ (one : length (symbol_text other) ≡ 1). omega arith) (λ (two : length (symbol_text other) ≡ 2). omega arith) (symbol_size other)

two_symbols : (b c : ℕ) (rest : List ℕ) (symbol : Symbol) → b ∷ c ∷ [] ≡ symbol_text symbol → HasPiece (b ∷ c ∷ rest)
two_symbols b c rest symbol is = record {
  piece = record { kind = Some (kinds.Symbol symbol); bytes = b ∷ c ∷ [] };
  rest = rest;
  begins = Begins-stopped (record { kind = Some (kinds.Symbol symbol); bytes = b ∷ c ∷ [] }) rest is (two_stop b c rest symbol);
  in_limit = tt;
}

-- where neither the first byte nor the first two are a symbol, nothing fits
no_symbol : (b : ℕ) (text : List ℕ) → class_of b ≡ 3 → ((symbol : Symbol) → b ∷ [] ≢ symbol_text symbol) → ((symbol : Symbol) (c : ℕ) (rest : List ℕ) → text ≡ c ∷ rest → b ∷ c ∷ [] ≢ symbol_text symbol) → BeginsBadly (b ∷ text)
no_symbol b text class no_one no_two = record {
  nonempty = omega arith;
  none_fits = λ piece after whole front. ⊎_elim
      (λ (none : piece.bytes ≡ []). omega (arith, ap length none, IsPiece-nonempty piece.kind piece.bytes whole))
      (λ (symbol : (s : Symbol) × (piece.bytes ≡ symbol_text s)).
      let split : b ∷ text ≡ symbol_text symbol.0 ++ after = front ∙ ap (λ bs. bs ++ after) symbol.1 in
      ⊎_elim
      (λ (one : length (symbol_text symbol.0) ≡ 1). no_one symbol.0 (ap (take 1) split ∙ take_at (symbol_text symbol.0) after 1 one))
      (λ (two : length (symbol_text symbol.0) ≡ 2). no_two_bytes b text symbol.0 after two no_two split)
      (symbol_size symbol.0))
      (symbol_fronts b text class piece after whole front);
}

symbol_front : (b : ℕ) (text : List ℕ) → class_of b ≡ 3 → HasFront (b ∷ text)
symbol_front b [] class =
    ⊎_elim
    (λ (one : (s : Symbol) × (b ∷ [] ≡ symbol_text s)). inl (one_symbol b [] one.0 one.1 tt))
    (λ (no_one : (s : Symbol) → b ∷ [] ≢ symbol_text s). inr (inl (no_symbol b [] class no_one (λ s c rest is. let size = ap length is in absurd (omega arith)))))
    (symbol_or_none (b ∷ []))
symbol_front b (c ∷ text) class =
    ⊎_elim
    (λ (two : (s : Symbol) × (b ∷ c ∷ [] ≡ symbol_text s)). inl (two_symbols b c text two.0 two.1))
    (λ (no_two : (s : Symbol) → b ∷ c ∷ [] ≢ symbol_text s). ⊎_elim
    (λ (one : (s : Symbol) × (b ∷ [] ≡ symbol_text s)). inl (one_symbol b (c ∷ text) one.0 one.1 (λ other is. no_two other (sym is))))
    (λ (no_one : (s : Symbol) → b ∷ [] ≢ symbol_text s). inr (inl (no_symbol b (c ∷ text) class no_one (λ s d rest is same. let head : c ≡ d = cc in no_two s (ap (λ e. b ∷ e ∷ []) head ∙ same)))))
    (symbol_or_none (b ∷ [])))
    (symbol_or_none (b ∷ c ∷ []))

other_class : (b : ℕ) → is_space b ≡ false → (b ≡ 35 → ⊥) → is_name_start b ≡ false → is_ascii_digit b ≡ false → class_of b ≡ 3
other_class b no_blank no_hash no_name no_digit = grind (arith, nat_tests)

some_front : (b : ℕ) (text : List ℕ) → HasFront (b ∷ text)
some_front b text =
    ⊎_elim (blank_front b text)
    (λ (no_blank : is_space b ≡ false). ⊎_elim (comment_front b text)
    (λ (no_hash : b ≡ 35 → ⊥). ⊎_elim (name_front b text)
    (λ (no_name : is_name_start b ≡ false). ⊎_elim (digits_front b text)
    (λ (no_digit : is_ascii_digit b ≡ false). symbol_front b text (other_class b no_blank no_hash no_name no_digit))
    (cases_Bool (is_ascii_digit b)))
    (cases_Bool (is_name_start b)))
    (cases_eq b 35))
    (cases_Bool (is_space b))

-- the pieces of a text as far as they go
record HasPieces (text : List ℕ) : Type 0 where
  pub pieces : List Piece
  pub rest : List ℕ
  pub before : Splits text pieces rest
  pub stop : (rest ≡ []) ⊎ IsFaulty rest

some_pieces : (n : ℕ) (text : List ℕ) → length text ≤ n → HasPieces text
some_pieces n [] upto = record { pieces = []; rest = []; before = refl; stop = inl refl }
some_pieces zero (b ∷ text) upto = absurd (omega arith)
some_pieces (suc n) (b ∷ text) upto =
    ⊎_elim
    (λ (has : HasPiece (b ∷ text)).
    let size = ap length has.begins.front in
    let nonempty = IsPiece-nonempty has.piece.kind has.piece.bytes has.begins.whole in
    let others = some_pieces n has.rest (omega (arith, length-append has.piece.bytes has.rest)) in
    record {
      pieces = has.piece ∷ others.pieces;
      rest = others.rest;
      before = (has.rest, has.begins, has.in_limit, others.before);
      stop = others.stop;
    })
    (λ (faulty : IsFaulty (b ∷ text)). record { pieces = []; rest = b ∷ text; before = refl; stop = inr faulty })
    (some_front b text)

pub some_reading : (text : List ℕ) → (reading : Result (List Token) KernFault) × Reads text reading
some_reading text =
    let has = some_pieces (length text) text (omega arith) in
    ⊎_elim
    (λ (end : has.rest ≡ []). (Ok (tokens_of 0 has.pieces), record { pieces = has.pieces; whole = subst (Splits text has.pieces) end has.before; tokens_are = refl }))
    (λ (faulty : IsFaulty has.rest). ⊎_elim
    (λ (bad : BeginsBadly has.rest). (Err (faults.BadByte (place_after 0 has.pieces)), record { pieces = has.pieces; rest = has.rest; before = has.before; fault_is = (refl, bad) }))
    (λ (large : BeginsTooLarge has.rest). (Err (faults.NumberTooLarge (place_after 0 has.pieces)), record { pieces = has.pieces; rest = has.rest; before = has.before; fault_is = (refl, large) }))
    faulty)
    has.stop
