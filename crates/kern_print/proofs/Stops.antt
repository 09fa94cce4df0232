-- The pieces of a canonical text, and where each of them stops.
use Rattle.std.proofs.Common.{◌≡◌, ◌≢◌, ℕ, ◌<◌, ◌^◌, ◌⊎◌, inl, inr, ⊎_elim, Bool, true, false, ◌||◌, refl, sym, ap, ◌∙◌, subst, List, [], ◌∷◌, ◌++◌, Some, None, IfSome, IsFalse, append_assoc, arith}
use Rattle.std.specs.Fmt.{decimal}
use Rattle.std.specs.Char.{is_ascii_digit}
use Rattle.std.proofs.lemmas.Fmt.{decimal_is_IsNumeral}
use Rattle.kern_token.specs.declared.token.Symbol.{Symbol}
use Rattle.kern_token.specs.declared.token.Symbol.TheVariants as symbols
use Rattle.kern_token.specs.declared.token.TokenKind.TheVariants as kinds
use Rattle.kern_token.specs.declared.token.Word.{Word}
use Rattle.kern_token.specs.Pieces.{Piece, IsPiece, Begins, is_name_byte, is_name_start}
use Rattle.kern_token.specs.Reading.{IsInLimit, Splits}
use Rattle.kern_token.specs.Spelling.{symbol_text, word_text}
use Rattle.kern_token.specs.Stopping.{StopsBefore}

-- ---- pieces

abbrev pub sym_of : Symbol → Piece
sym_of s = record { kind = Some (kinds.Symbol s); bytes = symbol_text s }

abbrev pub word_of : Word → Piece
word_of w = record { kind = Some (kinds.Word w); bytes = word_text w }

abbrev pub name_of : List ℕ → Piece
name_of n = record { kind = Some (kinds.Name n); bytes = n }

abbrev pub number_of : ℕ → Piece
number_of n = record { kind = Some (kinds.Number n); bytes = decimal n }

abbrev pub scale_of : ℕ → Piece
scale_of n = record { kind = Some (kinds.Scale n); bytes = 83 ∷ decimal n }

abbrev pub blank : ℕ → Piece
blank b = record { kind = None; bytes = b ∷ [] }

abbrev pub gap : Piece
gap = blank 32

abbrev pub bytes_of : List Piece → List ℕ
bytes_of [] = []
bytes_of (p ∷ ps) = p.bytes ++ bytes_of ps

pub bytes_of-append : (ps qs : List Piece) → bytes_of (ps ++ qs) ≡ bytes_of ps ++ bytes_of qs
bytes_of-append [] qs = refl
bytes_of-append (p ∷ ps) qs = ap (λ x. p.bytes ++ x) (bytes_of-append ps qs) ∙ sym (append_assoc p.bytes (bytes_of ps) (bytes_of qs))

-- ---- where pieces stop

-- no symbol of two bytes ends with this one
abbrev pub Calm : ℕ → Type 0
Calm b = (b ≢ 61) × (b ≢ 38) × (b ≢ 124)

abbrev pub BeginsCalm : List ℕ → Type 0
BeginsCalm [] = Unit {0}
BeginsCalm (b ∷ bytes) = Calm b

-- neither a name nor a symbol goes on here
abbrev pub Edge : List ℕ → Type 0
Edge [] = Unit {0}
Edge (b ∷ bytes) = IsFalse (is_name_byte b) × Calm b

pub edge_calm : (bytes : List ℕ) → Edge bytes → BeginsCalm bytes
edge_calm [] e = tt
edge_calm (b ∷ bytes) e = e.1

-- each is a piece and stops before the next
abbrev pub Stops : List Piece → List ℕ → Type 0
Stops [] rest = Unit {0}
Stops (p ∷ ps) rest = IsPiece p × IfSome p.kind IsInLimit × StopsBefore p (bytes_of ps ++ rest) × Stops ps rest

pub Stops-append : (ps qs : List Piece) (rest : List ℕ) → Stops ps (bytes_of qs ++ rest) → Stops qs rest → Stops (ps ++ qs) rest
Stops-append [] qs rest h k = k
Stops-append (p ∷ ps) qs rest h k =
    let e : bytes_of ps ++ (bytes_of qs ++ rest) ≡ bytes_of (ps ++ qs) ++ rest = sym (ap (λ x. x ++ rest) (bytes_of-append ps qs) ∙ append_assoc (bytes_of ps) (bytes_of qs) rest) in
    (h.0, h.1, subst (λ (bytes : List ℕ). StopsBefore p bytes) e h.2, Stops-append ps qs rest h.3 k)

-- the text of pieces that stop splits into them
pub Splits-stopped : ((piece : Piece) (rest : List ℕ) → IsPiece piece → StopsBefore piece rest → Begins (piece.bytes ++ rest) piece rest)
    → (ps : List Piece) (rest : List ℕ) → Stops ps rest → Splits (bytes_of ps ++ rest) ps rest
Splits-stopped law [] rest h = refl
Splits-stopped law (p ∷ ps) rest h =
    let e : p.bytes ++ (bytes_of ps ++ rest) ≡ (p.bytes ++ bytes_of ps) ++ rest = sym (append_assoc p.bytes (bytes_of ps) rest) in
    (bytes_of ps ++ rest, subst (λ (text : List ℕ). Begins text p (bytes_of ps ++ rest)) e (law p (bytes_of ps ++ rest) h.0 h.2), h.1, Splits-stopped law ps rest h.3)

-- ---- each kind of piece

-- a symbol of more than one byte has two, and its second is not calm
second_byte : (bytes : List ℕ) (next c : ℕ) → ((c ≡ 61) ⊎ (c ≡ 38) ⊎ (c ≡ 124)) → c ∷ [] ≡ bytes ++ next ∷ [] → Calm next → ⊥
second_byte [] next c known e calm =
    let same : c ≡ next = cc in
    ⊎_elim (λ a. calm.0 (sym same ∙ a)) (λ h. ⊎_elim (λ b. calm.1 (sym same ∙ b)) (λ d. calm.2 (sym same ∙ d)) h) known
second_byte (b ∷ []) next c known e calm = cc
second_byte (b ∷ d ∷ bytes) next c known e calm = cc

no_more : (bytes : List ℕ) (next : ℕ) → [] ≡ bytes ++ next ∷ [] → ⊥
no_more [] next e = cc
no_more (b ∷ bytes) next e = cc

tails : (a b : ℕ) (xs ys : List ℕ) → a ∷ xs ≡ b ∷ ys → xs ≡ ys
tails a b xs ys e = cc

symbol_longer : (other : Symbol) (b : ℕ) (bytes : List ℕ) (next : ℕ) → symbol_text other ≡ b ∷ (bytes ++ next ∷ []) → Calm next → ⊥
symbol_longer symbols.Plus b bytes next e calm = no_more bytes next (tails 43 b [] (bytes ++ next ∷ []) e)
symbol_longer symbols.Minus b bytes next e calm = no_more bytes next (tails 45 b [] (bytes ++ next ∷ []) e)
symbol_longer symbols.Star b bytes next e calm = no_more bytes next (tails 42 b [] (bytes ++ next ∷ []) e)
symbol_longer symbols.Slash b bytes next e calm = no_more bytes next (tails 47 b [] (bytes ++ next ∷ []) e)
symbol_longer symbols.OpenRound b bytes next e calm = no_more bytes next (tails 40 b [] (bytes ++ next ∷ []) e)
symbol_longer symbols.CloseRound b bytes next e calm = no_more bytes next (tails 41 b [] (bytes ++ next ∷ []) e)
symbol_longer symbols.OpenCurly b bytes next e calm = no_more bytes next (tails 123 b [] (bytes ++ next ∷ []) e)
symbol_longer symbols.CloseCurly b bytes next e calm = no_more bytes next (tails 125 b [] (bytes ++ next ∷ []) e)
symbol_longer symbols.Comma b bytes next e calm = no_more bytes next (tails 44 b [] (bytes ++ next ∷ []) e)
symbol_longer symbols.Semicolon b bytes next e calm = no_more bytes next (tails 59 b [] (bytes ++ next ∷ []) e)
symbol_longer symbols.Colon b bytes next e calm = no_more bytes next (tails 58 b [] (bytes ++ next ∷ []) e)
symbol_longer symbols.Dot b bytes next e calm = no_more bytes next (tails 46 b [] (bytes ++ next ∷ []) e)
symbol_longer symbols.Assign b bytes next e calm = no_more bytes next (tails 61 b [] (bytes ++ next ∷ []) e)
symbol_longer symbols.Add b bytes next e calm = second_byte bytes next 61 (inl refl) (tails 43 b (61 ∷ []) (bytes ++ next ∷ []) e) calm
symbol_longer symbols.Lt b bytes next e calm = no_more bytes next (tails 60 b [] (bytes ++ next ∷ []) e)
symbol_longer symbols.Le b bytes next e calm = second_byte bytes next 61 (inl refl) (tails 60 b (61 ∷ []) (bytes ++ next ∷ []) e) calm
symbol_longer symbols.Gt b bytes next e calm = no_more bytes next (tails 62 b [] (bytes ++ next ∷ []) e)
symbol_longer symbols.Ge b bytes next e calm = second_byte bytes next 61 (inl refl) (tails 62 b (61 ∷ []) (bytes ++ next ∷ []) e) calm
symbol_longer symbols.Eq b bytes next e calm = second_byte bytes next 61 (inl refl) (tails 61 b (61 ∷ []) (bytes ++ next ∷ []) e) calm
symbol_longer symbols.Ne b bytes next e calm = second_byte bytes next 61 (inl refl) (tails 33 b (61 ∷ []) (bytes ++ next ∷ []) e) calm
symbol_longer symbols.And b bytes next e calm = second_byte bytes next 38 (inr (inl refl)) (tails 38 b (38 ∷ []) (bytes ++ next ∷ []) e) calm
symbol_longer symbols.Or b bytes next e calm = second_byte bytes next 124 (inr (inr refl)) (tails 124 b (124 ∷ []) (bytes ++ next ∷ []) e) calm
symbol_longer symbols.Not b bytes next e calm = no_more bytes next (tails 33 b [] (bytes ++ next ∷ []) e)

-- the bytes of a symbol are some byte and others
symbol_head : (s : Symbol) → (b : ℕ) × (bytes : List ℕ) × (symbol_text s ≡ b ∷ bytes)
symbol_head symbols.Plus = (43, [], refl)
symbol_head symbols.Minus = (45, [], refl)
symbol_head symbols.Star = (42, [], refl)
symbol_head symbols.Slash = (47, [], refl)
symbol_head symbols.OpenRound = (40, [], refl)
symbol_head symbols.CloseRound = (41, [], refl)
symbol_head symbols.OpenCurly = (123, [], refl)
symbol_head symbols.CloseCurly = (125, [], refl)
symbol_head symbols.Comma = (44, [], refl)
symbol_head symbols.Semicolon = (59, [], refl)
symbol_head symbols.Colon = (58, [], refl)
symbol_head symbols.Dot = (46, [], refl)
symbol_head symbols.Assign = (61, [], refl)
symbol_head symbols.Add = (43, 61 ∷ [], refl)
symbol_head symbols.Lt = (60, [], refl)
symbol_head symbols.Le = (60, 61 ∷ [], refl)
symbol_head symbols.Gt = (62, [], refl)
symbol_head symbols.Ge = (62, 61 ∷ [], refl)
symbol_head symbols.Eq = (61, 61 ∷ [], refl)
symbol_head symbols.Ne = (33, 61 ∷ [], refl)
symbol_head symbols.And = (38, 38 ∷ [], refl)
symbol_head symbols.Or = (124, 124 ∷ [], refl)
symbol_head symbols.Not = (33, [], refl)

pub symbol_stops : (s : Symbol) (rest : List ℕ) → BeginsCalm rest → StopsBefore (sym_of s) rest
symbol_stops s [] calm = tt
symbol_stops s (next ∷ rest) calm = λ other e.
    let h = symbol_head s in
    symbol_longer other h.0 h.1 next (e ∙ ap (λ x. x ++ next ∷ []) h.2) calm

-- a name, a word or a scale
pub name_stops : (n : List ℕ) (rest : List ℕ) → Edge rest → StopsBefore (name_of n) rest
name_stops n [] edge = tt
name_stops n (next ∷ rest) edge = edge.0

pub word_stops : (w : Word) (rest : List ℕ) → Edge rest → StopsBefore (word_of w) rest
word_stops w [] edge = tt
word_stops w (next ∷ rest) edge = edge.0

pub scale_stops : (n : ℕ) (rest : List ℕ) → Edge rest → StopsBefore (scale_of n) rest
scale_stops n [] edge = tt
scale_stops n (next ∷ rest) edge = edge.0

neither : (a b : Bool) → a || b ≡ false → b ≡ false
neither true b e = cc
neither false b e = e

pub number_stops : (n : ℕ) (rest : List ℕ) → Edge rest → StopsBefore (number_of n) rest
number_stops n [] edge = tt
number_stops n (next ∷ rest) edge = neither (is_name_start next) (is_ascii_digit next) edge.0

pub blank_stops : (b : ℕ) (rest : List ℕ) → b ≢ 35 → StopsBefore (blank b) rest
blank_stops b [] other = tt
blank_stops b (next ∷ rest) other = λ e. absurd (other e)

pub number_piece : (n : ℕ) → n < 2 ^ 63 → IsPiece (number_of n)
number_piece n small =
    let h = decimal_is_IsNumeral n (omega arith) in
    (h.0, sym h.1)
