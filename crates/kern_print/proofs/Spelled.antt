-- The pieces of a held expression: they stop, and their bytes are its canonical text.
use Rattle.std.proofs.Common.{◌≡◌, ◌≢◌, ℕ, zero, suc, ◌<◌, ◌≤◌, ◌^◌, true, false, refl, sym, ap, subst, List, [], ◌∷◌, ◌++◌, inl, length, IsTrue, IsFalse, arith}
use Rattle.std.specs.Char.{digit_value, is_ascii_alphabetic}
use Rattle.std.specs.Fmt.{decimal}
use Rattle.std.specs.Str.Parse.{IsNumeral}
use Rattle.std.proofs.lemmas.Fmt.{decimal_is_IsNumeral}
use Rattle.kern_token.specs.declared.token.Symbol.{Symbol}
use Rattle.kern_token.specs.declared.token.Symbol.TheVariants as symbols
use Rattle.kern_token.specs.declared.token.Word.{Word}
use Rattle.kern_token.specs.declared.token.Word.TheVariants as words
use Rattle.kern_token.specs.Pieces.{Piece, IsPiece, IsName, IsNameLike, IsScale, is_name_start}
use Rattle.kern_token.specs.Spelling.{word_text}
use Rattle.kern_tree.specs.declared.expr.Expr.{Expr}
use Rattle.kern_tree.specs.Grammar.{axis_letter}
use Rattle.pf_geom.specs.declared.axis.Axis.{Axis}
use Rattle.pf_geom.specs.declared.axis.Axis.TheVariants as axes
use Rattle.kern_print.proofs.Held.{Bare, Held, bare, bracket, literal, variable, part, sign, two, call1, call2, call3, to, neg, not, isqrt, abs, least, most, muldiv, build}
use Rattle.kern_print.proofs.Stops.{sym_of, word_of, name_of, number_of, scale_of, gap, bytes_of, bytes_of-append, Calm, BeginsCalm, Edge, edge_calm, Stops, Stops-append, symbol_stops, name_stops, word_stops, scale_stops, number_stops, blank_stops, number_piece}

abbrev pub literal_pieces : ℕ → ℕ → List Piece
literal_pieces mantissa zero = number_of mantissa ∷ []
literal_pieces mantissa (suc bits) = number_of mantissa ∷ gap ∷ scale_of (suc bits) ∷ []

abbrev pub closed : List Piece
closed = sym_of symbols.CloseRound ∷ []

abbrev mutual
  pub bare_pieces : {depth level : ℕ} {e : Expr} → Bare depth level e → List Piece
  bare_pieces (literal {mantissa = m} {bits = b} small limit) = literal_pieces m b
  bare_pieces (variable {called = n} name) = name_of n ∷ []
  bare_pieces (part {axis = axis} a) = held_pieces a ++ (sym_of symbols.Dot ∷ name_of (axis_letter axis) ∷ [])
  bare_pieces (sign {s = s} known a) = sym_of s ∷ held_pieces a
  bare_pieces (two {s = s} known a b) = held_pieces a ++ (gap ∷ sym_of s ∷ gap ∷ held_pieces b)
  bare_pieces (call1 {w = w} known d a) = word_of w ∷ sym_of symbols.OpenRound ∷ (held_pieces a ++ closed)
  bare_pieces (call2 {w = w} known d a b) = word_of w ∷ sym_of symbols.OpenRound ∷ (held_pieces a ++ (sym_of symbols.Comma ∷ gap ∷ (held_pieces b ++ closed)))
  bare_pieces (call3 {w = w} known d a b c) = word_of w ∷ sym_of symbols.OpenRound ∷ (held_pieces a ++ (sym_of symbols.Comma ∷ gap ∷ (held_pieces b ++ (sym_of symbols.Comma ∷ gap ∷ (held_pieces c ++ closed)))))
  bare_pieces (to {bits = k} fits d a) = word_of words.To ∷ sym_of symbols.OpenRound ∷ number_of k ∷ sym_of symbols.Comma ∷ gap ∷ (held_pieces a ++ closed)

  pub held_pieces : {depth needed : ℕ} {e : Expr} → Held depth needed e → List Piece
  held_pieces (bare n b) = bare_pieces b
  held_pieces (bracket n d b) = sym_of symbols.OpenRound ∷ (bare_pieces b ++ closed)

-- ---- bytes that a piece before them stops at

calm_32 : Calm 32
calm_32 = (λ e. omega arith, λ e. omega arith, λ e. omega arith)

calm_40 : Calm 40
calm_40 = (λ e. omega arith, λ e. omega arith, λ e. omega arith)

pub edge_32 : IsFalse false × Calm 32
edge_32 = (refl, calm_32)

pub edge_40 : IsFalse false × Calm 40
edge_40 = (refl, calm_40)

pub edge_41 : IsFalse false × Calm 41
edge_41 = (refl, (λ e. omega arith, λ e. omega arith, λ e. omega arith))

pub edge_44 : IsFalse false × Calm 44
edge_44 = (refl, (λ e. omega arith, λ e. omega arith, λ e. omega arith))

pub edge_46 : IsFalse false × Calm 46
edge_46 = (refl, (λ e. omega arith, λ e. omega arith, λ e. omega arith))

pub edge_59 : IsFalse false × Calm 59
edge_59 = (refl, (λ e. omega arith, λ e. omega arith, λ e. omega arith))

-- ---- how an expression begins

abbrev pub Starts : List ℕ → Type 0
Starts [] = ⊥
Starts (b ∷ bytes) = Calm b

pub starts_calm : (bytes rest : List ℕ) → Starts bytes → BeginsCalm (bytes ++ rest)
starts_calm [] rest h = absurd h
starts_calm (b ∷ bytes) rest h = h

starts_more : (bytes rest : List ℕ) → Starts bytes → Starts (bytes ++ rest)
starts_more [] rest h = absurd h
starts_more (b ∷ bytes) rest h = h

pub starts_append : (ps qs : List Piece) → Starts (bytes_of ps) → Starts (bytes_of (ps ++ qs))
starts_append ps qs h = subst Starts (sym (bytes_of-append ps qs)) (starts_more (bytes_of ps) (bytes_of qs) h)

digits_start : (bytes : List ℕ) → IsNumeral 10 bytes → Starts bytes
digits_start [] h = let p = h.0 in absurd (omega arith)
digits_start (b ∷ bytes) h = (
  λ e. let p : digit_value 61 < 10 = subst (λ (c : ℕ). digit_value c < 10) e h.1.0 in omega arith,
  λ e. let p : digit_value 38 < 10 = subst (λ (c : ℕ). digit_value c < 10) e h.1.0 in omega arith,
  λ e. let p : digit_value 124 < 10 = subst (λ (c : ℕ). digit_value c < 10) e h.1.0 in omega arith,
)

pub number_starts : (n : ℕ) → n < 2 ^ 63 → Starts (decimal n)
number_starts n small = digits_start (decimal n) (decimal_is_IsNumeral n (omega arith)).0

pub names_start : (bytes : List ℕ) → IsNameLike bytes → Starts bytes
names_start [] h = absurd h
names_start (b ∷ bytes) h = (
  λ e. let p : is_name_start 61 ≡ true = subst (λ (c : ℕ). is_name_start c ≡ true) e h.0 in cc,
  λ e. let p : is_name_start 38 ≡ true = subst (λ (c : ℕ). is_name_start c ≡ true) e h.0 in cc,
  λ e. let p : is_name_start 124 ≡ true = subst (λ (c : ℕ). is_name_start c ≡ true) e h.0 in cc,
)

-- a letter of a word, or a sign
letter : (b : ℕ) → IsTrue (is_ascii_alphabetic b) → Calm b
letter b h = (
  λ e. let p : is_ascii_alphabetic 61 ≡ true = subst (λ (c : ℕ). is_ascii_alphabetic c ≡ true) e h in cc,
  λ e. let p : is_ascii_alphabetic 38 ≡ true = subst (λ (c : ℕ). is_ascii_alphabetic c ≡ true) e h in cc,
  λ e. let p : is_ascii_alphabetic 124 ≡ true = subst (λ (c : ℕ). is_ascii_alphabetic c ≡ true) e h in cc,
)

literal_starts : (m b : ℕ) → m < 2 ^ 63 → Starts (bytes_of (literal_pieces m b))
literal_starts m zero small = starts_append (number_of m ∷ []) [] (starts_more (decimal m) [] (number_starts m small))
literal_starts m (suc b) small = starts_append (number_of m ∷ []) (gap ∷ scale_of (suc b) ∷ []) (starts_more (decimal m) [] (number_starts m small))

mutual
  pub bare_starts : {depth level : ℕ} {e : Expr} (h : Bare depth level e) → Starts (bytes_of (bare_pieces h))
  bare_starts (literal {mantissa = m} {bits = b} small limit) = literal_starts m b small
  bare_starts (variable {called = n} name) = starts_more n [] (names_start n name.name_like)
  bare_starts (part {axis = axis} a) = starts_append (held_pieces a) (sym_of symbols.Dot ∷ name_of (axis_letter axis) ∷ []) (held_starts a)
  bare_starts (sign neg a) = (λ e. omega arith, λ e. omega arith, λ e. omega arith)
  bare_starts (sign not a) = (λ e. omega arith, λ e. omega arith, λ e. omega arith)
  bare_starts (two {s = s} known a b) = starts_append (held_pieces a) (gap ∷ sym_of s ∷ gap ∷ held_pieces b) (held_starts a)
  bare_starts (call1 isqrt d a) = letter 105 refl
  bare_starts (call1 abs d a) = letter 97 refl
  bare_starts (call2 least d a b) = letter 109 refl
  bare_starts (call2 most d a b) = letter 109 refl
  bare_starts (call3 muldiv d a b c) = letter 109 refl
  bare_starts (call3 build d a b c) = letter 118 refl
  bare_starts (to fits d a) = letter 116 refl

  pub held_starts : {depth needed : ℕ} {e : Expr} (h : Held depth needed e) → Starts (bytes_of (held_pieces h))
  held_starts (bare n b) = bare_starts b
  held_starts (bracket n d b) = calm_40

-- ---- an axis is a name

long_word : (w : Word) → 1 < length (word_text w)
long_word words.Epi = omega arith
long_word words.Epj = omega arith
long_word words.Force = omega arith
long_word words.Param = omega arith
long_word words.Num = omega arith
long_word words.Vec = omega arith
long_word words.Sum = omega arith
long_word words.Max = omega arith
long_word words.Min = omega arith
long_word words.If = omega arith
long_word words.Else = omega arith
long_word words.To = omega arith
long_word words.Muldiv = omega arith
long_word words.Isqrt = omega arith
long_word words.Abs = omega arith

no_word : (b : ℕ) (w : Word) → b ∷ [] ≢ word_text w
no_word b w e = let h : 1 ≡ length (word_text w) = ap (λ (x : List ℕ). length x) e in let l = long_word w in omega arith

heads : (a b : ℕ) (xs ys : List ℕ) → a ∷ xs ≡ b ∷ ys → a ≡ b
heads a b xs ys e = cc

no_scale : (b : ℕ) → b ≢ 83 → (n : ℕ) → IsScale n (b ∷ []) → ⊥
no_scale b other n h = other (heads b 83 [] (decimal n) h.spelled)

pub axis_is_name : (axis : Axis) → IsName (axis_letter axis)
axis_is_name axes.X = record { name_like = (refl, tt); no_word = no_word 120; no_scale = no_scale 120 (λ e. omega arith) }
axis_is_name axes.Y = record { name_like = (refl, tt); no_word = no_word 121; no_scale = no_scale 121 (λ e. omega arith) }
axis_is_name axes.Z = record { name_like = (refl, tt); no_word = no_word 122; no_scale = no_scale 122 (λ e. omega arith) }

-- ---- where the pieces of an expression stop

pub gap_piece : IsPiece gap
gap_piece = inl (refl, refl)

pub gap_before : (ps : List Piece) (rest : List ℕ) → Stops ps rest → Stops (gap ∷ ps) rest
gap_before ps rest h = (gap_piece, tt, blank_stops 32 (bytes_of ps ++ rest) (λ e. omega arith), h)

pub sym_before : (s : Symbol) (ps : List Piece) (rest : List ℕ) → BeginsCalm (bytes_of ps ++ rest) → Stops ps rest → Stops (sym_of s ∷ ps) rest
sym_before s ps rest calm h = (refl, tt, symbol_stops s (bytes_of ps ++ rest) calm, h)

pub word_before : (w : Word) (ps : List Piece) (rest : List ℕ) → Edge (bytes_of ps ++ rest) → Stops ps rest → Stops (word_of w ∷ ps) rest
word_before w ps rest edge h = (refl, tt, word_stops w (bytes_of ps ++ rest) edge, h)

pub name_before : (n : List ℕ) (ps : List Piece) (rest : List ℕ) → IsName n → Edge (bytes_of ps ++ rest) → Stops ps rest → Stops (name_of n ∷ ps) rest
name_before n ps rest name edge h = ((refl, name), tt, name_stops n (bytes_of ps ++ rest) edge, h)

pub number_before : (n : ℕ) (ps : List Piece) (rest : List ℕ) → n < 2 ^ 63 → Edge (bytes_of ps ++ rest) → Stops ps rest → Stops (number_of n ∷ ps) rest
number_before n ps rest small edge h = (number_piece n small, small, number_stops n (bytes_of ps ++ rest) edge, h)

pub scale_before : (n : ℕ) (ps : List Piece) (rest : List ℕ) → n ≤ 62 → Edge (bytes_of ps ++ rest) → Stops ps rest → Stops (scale_of n ∷ ps) rest
scale_before n ps rest limit edge h = (record { limit = limit; spelled = refl }, tt, scale_stops n (bytes_of ps ++ rest) edge, h)

literal_stops : (m b : ℕ) (rest : List ℕ) → m < 2 ^ 63 → b ≤ 62 → Edge rest → Stops (literal_pieces m b) rest
literal_stops m zero rest small limit edge = number_before m [] rest small edge tt
literal_stops m (suc b) rest small limit edge = number_before m (gap ∷ scale_of (suc b) ∷ []) rest small edge_32 (gap_before (scale_of (suc b) ∷ []) rest (scale_before (suc b) [] rest limit edge tt))

axis_starts : (axis : Axis) → Starts (axis_letter axis)
axis_starts axis = names_start (axis_letter axis) (axis_is_name axis).name_like

closed_stops : (rest : List ℕ) → Edge rest → Stops closed rest
closed_stops rest edge = sym_before symbols.CloseRound [] rest (edge_calm rest edge) tt

calm_of : (ps : List Piece) (rest : List ℕ) → Starts (bytes_of ps) → BeginsCalm (bytes_of ps ++ rest)
calm_of ps rest h = starts_calm (bytes_of ps) rest h

-- the last operand of a call
pub last_stops : (ps : List Piece) (rest : List ℕ) → ((r : List ℕ) → Edge r → Stops ps r) → Edge rest → Stops (ps ++ closed) rest
last_stops ps rest h edge = Stops-append ps closed rest (h (bytes_of closed ++ rest) edge_41) (closed_stops rest edge)

-- an operand with another behind it
pub next_stops : (ps qs : List Piece) (rest : List ℕ) → ((r : List ℕ) → Edge r → Stops ps r) → Stops qs rest → Stops (ps ++ (sym_of symbols.Comma ∷ gap ∷ qs)) rest
next_stops ps qs rest h k =
    Stops-append ps (sym_of symbols.Comma ∷ gap ∷ qs) rest (h (bytes_of (sym_of symbols.Comma ∷ gap ∷ qs) ++ rest) edge_44)
    (sym_before symbols.Comma (gap ∷ qs) rest calm_32 (gap_before qs rest k))

mutual
  pub bare_stops : {depth level : ℕ} {e : Expr} (h : Bare depth level e) (rest : List ℕ) → Edge rest → Stops (bare_pieces h) rest
  bare_stops (literal {mantissa = m} {bits = b} small limit) rest edge = literal_stops m b rest small limit edge
  bare_stops (variable {called = n} name) rest edge = name_before n [] rest name edge tt
  bare_stops (part {axis = axis} a) rest edge =
      Stops-append (held_pieces a) (sym_of symbols.Dot ∷ name_of (axis_letter axis) ∷ []) rest (held_stops a (bytes_of (sym_of symbols.Dot ∷ name_of (axis_letter axis) ∷ []) ++ rest) edge_46)
      (sym_before symbols.Dot (name_of (axis_letter axis) ∷ []) rest (calm_of (name_of (axis_letter axis) ∷ []) rest (starts_more (axis_letter axis) [] (axis_starts axis))) (name_before (axis_letter axis) [] rest (axis_is_name axis) edge tt))
  bare_stops (sign {s = s} known a) rest edge = sym_before s (held_pieces a) rest (calm_of (held_pieces a) rest (held_starts a)) (held_stops a rest edge)
  bare_stops (two {s = s} known a b) rest edge =
      Stops-append (held_pieces a) (gap ∷ sym_of s ∷ gap ∷ held_pieces b) rest (held_stops a (bytes_of (gap ∷ sym_of s ∷ gap ∷ held_pieces b) ++ rest) edge_32)
      (gap_before (sym_of s ∷ gap ∷ held_pieces b) rest (sym_before s (gap ∷ held_pieces b) rest calm_32 (gap_before (held_pieces b) rest (held_stops b rest edge))))
  bare_stops (call1 {w = w} known d a) rest edge =
      word_before w (sym_of symbols.OpenRound ∷ (held_pieces a ++ closed)) rest edge_40
      (sym_before symbols.OpenRound (held_pieces a ++ closed) rest (calm_of (held_pieces a ++ closed) rest (starts_append (held_pieces a) closed (held_starts a))) (last_stops (held_pieces a) rest (λ r e. held_stops a r e) edge))
  bare_stops (call2 {w = w} known d a b) rest edge =
      word_before w (sym_of symbols.OpenRound ∷ (held_pieces a ++ (sym_of symbols.Comma ∷ gap ∷ (held_pieces b ++ closed)))) rest edge_40
      (sym_before symbols.OpenRound (held_pieces a ++ (sym_of symbols.Comma ∷ gap ∷ (held_pieces b ++ closed))) rest
      (calm_of (held_pieces a ++ (sym_of symbols.Comma ∷ gap ∷ (held_pieces b ++ closed))) rest (starts_append (held_pieces a) (sym_of symbols.Comma ∷ gap ∷ (held_pieces b ++ closed)) (held_starts a)))
      (next_stops (held_pieces a) (held_pieces b ++ closed) rest (λ r e. held_stops a r e) (last_stops (held_pieces b) rest (λ r e. held_stops b r e) edge)))
  bare_stops (call3 {w = w} known d a b c) rest edge =
      word_before w (sym_of symbols.OpenRound ∷ (held_pieces a ++ (sym_of symbols.Comma ∷ gap ∷ (held_pieces b ++ (sym_of symbols.Comma ∷ gap ∷ (held_pieces c ++ closed)))))) rest edge_40
      (sym_before symbols.OpenRound (held_pieces a ++ (sym_of symbols.Comma ∷ gap ∷ (held_pieces b ++ (sym_of symbols.Comma ∷ gap ∷ (held_pieces c ++ closed))))) rest
      (calm_of (held_pieces a ++ (sym_of symbols.Comma ∷ gap ∷ (held_pieces b ++ (sym_of symbols.Comma ∷ gap ∷ (held_pieces c ++ closed))))) rest
      (starts_append (held_pieces a) (sym_of symbols.Comma ∷ gap ∷ (held_pieces b ++ (sym_of symbols.Comma ∷ gap ∷ (held_pieces c ++ closed)))) (held_starts a)))
      (next_stops (held_pieces a) (held_pieces b ++ (sym_of symbols.Comma ∷ gap ∷ (held_pieces c ++ closed))) rest (λ r e. held_stops a r e) (next_stops (held_pieces b) (held_pieces c ++ closed) rest (λ r e. held_stops b r e) (last_stops (held_pieces c) rest (λ r e. held_stops c r e) edge))))
  bare_stops (to {bits = k} fits d a) rest edge =
      word_before words.To (sym_of symbols.OpenRound ∷ number_of k ∷ sym_of symbols.Comma ∷ gap ∷ (held_pieces a ++ closed)) rest edge_40
      (sym_before symbols.OpenRound (number_of k ∷ sym_of symbols.Comma ∷ gap ∷ (held_pieces a ++ closed)) rest
      (calm_of (number_of k ∷ sym_of symbols.Comma ∷ gap ∷ (held_pieces a ++ closed)) rest (starts_more (decimal k) (bytes_of (sym_of symbols.Comma ∷ gap ∷ (held_pieces a ++ closed))) (number_starts k (omega arith))))
      (number_before k (sym_of symbols.Comma ∷ gap ∷ (held_pieces a ++ closed)) rest (omega arith) edge_44
      (sym_before symbols.Comma (gap ∷ (held_pieces a ++ closed)) rest calm_32 (gap_before (held_pieces a ++ closed) rest (last_stops (held_pieces a) rest (λ r e. held_stops a r e) edge)))))

  pub held_stops : {depth needed : ℕ} {e : Expr} (h : Held depth needed e) (rest : List ℕ) → Edge rest → Stops (held_pieces h) rest
  held_stops (bare n b) rest edge = bare_stops b rest edge
  held_stops (bracket n d b) rest edge =
      sym_before symbols.OpenRound (bare_pieces b ++ closed) rest (calm_of (bare_pieces b ++ closed) rest (starts_append (bare_pieces b) closed (bare_starts b)))
      (Stops-append (bare_pieces b) closed rest (bare_stops b (bytes_of closed ++ rest) edge_41) (closed_stops rest edge))
