-- The pieces of the benchmark's kernel, line by line, and a test that tells how a text splits.
use Rattle.std.proofs.Common.{◌≡◌, ◌≢◌, ℕ, zero, suc, ◌<◌, ◌≤◌, ◌^◌, Bool, true, false, not, ◌&&◌, refl, sym, subst, List, [], ◌∷◌, ◌++◌, inl, Option, Some, None, IfSome, arith}
use Rattle.std.specs.Prelude.{codes, nat_lt, nat_le, ◌==◌, slice_get, slice_index}
use Rattle.std.specs.Char.{is_ascii_digit}
use Rattle.std.specs.Fmt.{decimal, digits}
use Rattle.std.specs.List.{AllByRecursion}
use Rattle.std.specs.Str.{bytes_eq}
use Rattle.std.specs.Str.Parse.{IsNumeral, digits_value}
use Rattle.std.proofs.lemmas.Bool.Decides.{nat_tests}
use Rattle.std.proofs.lemmas.Fmt.{decimal_is_IsNumeral}
use Rattle.std.proofs.lemmas.Slice.Eq.{bytes_eq-Decides}
use Rattle.kern_token.specs.declared.token.Symbol.{Symbol}
use Rattle.kern_token.specs.declared.token.Symbol.TheVariants as symbols
use Rattle.kern_token.specs.declared.token.TokenKind.{TokenKind}
use Rattle.kern_token.specs.declared.token.TokenKind.TheVariants as kinds
use Rattle.kern_token.specs.declared.token.Word.{Word}
use Rattle.kern_token.specs.declared.token.Word.TheVariants as words
use Rattle.kern_token.specs.Pieces.{Piece, IsPiece, IsName, Begins, is_space, is_name_start, is_name_byte}
use Rattle.kern_token.specs.Reading.{IsInLimit, Splits}
use Rattle.kern_token.specs.Spelling.{symbol_text, word_text}
use Rattle.kern_token.specs.Stopping.{StopsBefore}

-- ---- pieces

abbrev pub word_piece : Word → Piece
word_piece w = record { kind = Some (kinds.Word w); bytes = word_text w }

abbrev pub symbol_piece : Symbol → Piece
symbol_piece s = record { kind = Some (kinds.Symbol s); bytes = symbol_text s }

abbrev pub name_piece : List ℕ → Piece
name_piece called = record { kind = Some (kinds.Name called); bytes = called }

abbrev pub number_piece : ℕ → List ℕ → Piece
number_piece n digits = record { kind = Some (kinds.Number n); bytes = digits }

abbrev pub scale_piece : ℕ → List ℕ → Piece
scale_piece bits digits = record { kind = Some (kinds.Scale bits); bytes = 83 ∷ digits }

abbrev pub space : Piece
space = record { kind = None; bytes = 32 ∷ [] }

abbrev pub newline : Piece
newline = record { kind = None; bytes = 10 ∷ [] }

-- ---- tests

pub both_pass : (a b : Bool) → a && b ≡ true → (a ≡ true) × (b ≡ true)
both_pass true b e = (refl, e)
both_pass false b e = absurd cc

abbrev all_pass : {A : Type 0} → (A → Bool) → List A → Bool
all_pass test [] = true
all_pass test (x ∷ xs) = test x && all_pass test xs

each_passes : {A : Type 0} (test : A → Bool) (xs : List A) → all_pass test xs ≡ true → AllByRecursion (λ x. test x ≡ true) xs
each_passes test [] e = tt
each_passes test (x ∷ xs) e = let h = both_pass (test x) (all_pass test xs) e in (h.0, each_passes test xs h.1)

one_passes : {A : Type 0} (test : A → Bool) (xs : List A) (n : ℕ) (x : A) → all_pass test xs ≡ true → slice_get xs n ≡ Some x → test x ≡ true
one_passes test [] n x e found = absurd cc
one_passes test (y ∷ xs) zero x e found = subst (λ z. test z ≡ true) (let is : y ≡ x = cc in is) (both_pass (test y) (all_pass test xs) e).0
one_passes test (y ∷ xs) (suc n) x e found = one_passes test xs n x (both_pass (test y) (all_pass test xs) e).1 found

same : (a b : List ℕ) → bytes_eq a b ≡ true → a ≡ b
same a b e = (bytes_eq-Decides a b).0 e

apart : (a b : List ℕ) → not (bytes_eq a b) ≡ true → a ≢ b
apart a b e is = let f : bytes_eq a b ≡ true = (bytes_eq-Decides a b).1 is in absurd (let no : ⊥ = cc in no)

abbrev all_words : List Word
all_words =
    words.Epi ∷ words.Epj ∷ words.Force ∷ words.Param ∷ words.Num ∷ words.Vec ∷ words.Sum ∷ words.Max ∷ words.Min ∷ words.If ∷ words.Else ∷ words.To ∷ words.Muldiv ∷ words.Isqrt ∷ words.Abs ∷ []

word_passes : (test : Word → Bool) → all_pass test all_words ≡ true → (w : Word) → test w ≡ true
word_passes test e words.Epi = one_passes test all_words 0 words.Epi e refl
word_passes test e words.Epj = one_passes test all_words 1 words.Epj e refl
word_passes test e words.Force = one_passes test all_words 2 words.Force e refl
word_passes test e words.Param = one_passes test all_words 3 words.Param e refl
word_passes test e words.Num = one_passes test all_words 4 words.Num e refl
word_passes test e words.Vec = one_passes test all_words 5 words.Vec e refl
word_passes test e words.Sum = one_passes test all_words 6 words.Sum e refl
word_passes test e words.Max = one_passes test all_words 7 words.Max e refl
word_passes test e words.Min = one_passes test all_words 8 words.Min e refl
word_passes test e words.If = one_passes test all_words 9 words.If e refl
word_passes test e words.Else = one_passes test all_words 10 words.Else e refl
word_passes test e words.To = one_passes test all_words 11 words.To e refl
word_passes test e words.Muldiv = one_passes test all_words 12 words.Muldiv e refl
word_passes test e words.Isqrt = one_passes test all_words 13 words.Isqrt e refl
word_passes test e words.Abs = one_passes test all_words 14 words.Abs e refl

abbrev all_symbols : List Symbol
all_symbols =
    symbols.Plus ∷ symbols.Minus ∷ symbols.Star ∷ symbols.Slash ∷ symbols.OpenRound ∷ symbols.CloseRound ∷ symbols.OpenCurly ∷ symbols.CloseCurly ∷ symbols.Comma ∷ symbols.Semicolon ∷ symbols.Colon ∷ symbols.Dot ∷ symbols.Assign ∷ symbols.Add ∷ symbols.Lt ∷ symbols.Le ∷ symbols.Gt ∷ symbols.Ge ∷ symbols.Eq ∷ symbols.Ne ∷ symbols.And ∷ symbols.Or ∷ symbols.Not ∷ []

symbol_passes : (test : Symbol → Bool) → all_pass test all_symbols ≡ true → (s : Symbol) → test s ≡ true
symbol_passes test e symbols.Plus = one_passes test all_symbols 0 symbols.Plus e refl
symbol_passes test e symbols.Minus = one_passes test all_symbols 1 symbols.Minus e refl
symbol_passes test e symbols.Star = one_passes test all_symbols 2 symbols.Star e refl
symbol_passes test e symbols.Slash = one_passes test all_symbols 3 symbols.Slash e refl
symbol_passes test e symbols.OpenRound = one_passes test all_symbols 4 symbols.OpenRound e refl
symbol_passes test e symbols.CloseRound = one_passes test all_symbols 5 symbols.CloseRound e refl
symbol_passes test e symbols.OpenCurly = one_passes test all_symbols 6 symbols.OpenCurly e refl
symbol_passes test e symbols.CloseCurly = one_passes test all_symbols 7 symbols.CloseCurly e refl
symbol_passes test e symbols.Comma = one_passes test all_symbols 8 symbols.Comma e refl
symbol_passes test e symbols.Semicolon = one_passes test all_symbols 9 symbols.Semicolon e refl
symbol_passes test e symbols.Colon = one_passes test all_symbols 10 symbols.Colon e refl
symbol_passes test e symbols.Dot = one_passes test all_symbols 11 symbols.Dot e refl
symbol_passes test e symbols.Assign = one_passes test all_symbols 12 symbols.Assign e refl
symbol_passes test e symbols.Add = one_passes test all_symbols 13 symbols.Add e refl
symbol_passes test e symbols.Lt = one_passes test all_symbols 14 symbols.Lt e refl
symbol_passes test e symbols.Le = one_passes test all_symbols 15 symbols.Le e refl
symbol_passes test e symbols.Gt = one_passes test all_symbols 16 symbols.Gt e refl
symbol_passes test e symbols.Ge = one_passes test all_symbols 17 symbols.Ge e refl
symbol_passes test e symbols.Eq = one_passes test all_symbols 18 symbols.Eq e refl
symbol_passes test e symbols.Ne = one_passes test all_symbols 19 symbols.Ne e refl
symbol_passes test e symbols.And = one_passes test all_symbols 20 symbols.And e refl
symbol_passes test e symbols.Or = one_passes test all_symbols 21 symbols.Or e refl
symbol_passes test e symbols.Not = one_passes test all_symbols 22 symbols.Not e refl

-- ---- what is a piece

-- what begins with no S is no scale
abbrev is_name : List ℕ → Bool
is_name [] = false
is_name (b ∷ bytes) =
    (is_name_start b && all_pass is_name_byte bytes) && (all_pass (λ w. not (bytes_eq (b ∷ bytes) (word_text w))) all_words && not (b == 83))

other_than : (b c : ℕ) → not (b == c) ≡ true → b ≢ c
other_than b c e is = absurd (let no : ⊥ = grind (arith, nat_tests, e, is) in no)

name_stands : (bytes : List ℕ) → is_name bytes ≡ true → IsName bytes
name_stands [] e = absurd cc
name_stands (b ∷ bytes) e =
    let parts = both_pass (is_name_start b && all_pass is_name_byte bytes) _ e in
    let like = both_pass (is_name_start b) (all_pass is_name_byte bytes) parts.0 in
    let others = both_pass (all_pass (λ w. not (bytes_eq (b ∷ bytes) (word_text w))) all_words) (not (b == 83)) parts.1 in
    record {
      name_like = (like.0, each_passes is_name_byte bytes like.1);
      no_word = λ w. apart (b ∷ bytes) (word_text w) (word_passes (λ x. not (bytes_eq (b ∷ bytes) (word_text x))) others.0 w);
      no_scale = λ n h. let is : b ∷ bytes ≡ 83 ∷ decimal n = h.spelled in let first : b ≡ 83 = cc in absurd (other_than b 83 others.1 first);
    }

abbrev is_piece : Option TokenKind → List ℕ → Bool
is_piece None [] = false
is_piece None (b ∷ bytes) = is_space b && bytes_eq bytes []
is_piece (Some (kinds.Name name)) bytes = bytes_eq name bytes && is_name bytes
is_piece (Some (kinds.Word word)) bytes = bytes_eq bytes (word_text word)
is_piece (Some (kinds.Scale scale)) bytes = nat_le scale 62 && bytes_eq bytes (83 ∷ decimal scale)
is_piece (Some (kinds.Number number)) bytes = nat_lt number (2 ^ 63) && bytes_eq bytes (decimal number)
is_piece (Some (kinds.Symbol symbol)) bytes = bytes_eq bytes (symbol_text symbol)

numeral : (n : ℕ) (bytes : List ℕ) → n < 2 ^ 63 → bytes ≡ decimal n → IsNumeral 10 bytes × (n ≡ digits_value 10 bytes)
numeral n bytes small e =
    let h = decimal_is_IsNumeral n (omega arith) in
    subst (λ (b : List ℕ). IsNumeral 10 b × (n ≡ digits_value 10 b)) (sym e) (h.0, sym h.1)

piece_stands : (kind : Option TokenKind) (bytes : List ℕ) → is_piece kind bytes ≡ true → IsPiece (record { kind = kind; bytes = bytes }) × IfSome kind IsInLimit
piece_stands None [] e = absurd cc
piece_stands None (b ∷ bytes) e = let h = both_pass (is_space b) (bytes_eq bytes []) e in (inl (h.0, same bytes [] h.1), tt)
piece_stands (Some (kinds.Name name)) bytes e =
    let h = both_pass (bytes_eq name bytes) (is_name bytes) e in ((same name bytes h.0, name_stands bytes h.1), tt)
piece_stands (Some (kinds.Word word)) bytes e = (same bytes (word_text word) e, tt)
piece_stands (Some (kinds.Scale scale)) bytes e =
    let h = both_pass (nat_le scale 62) (bytes_eq bytes (83 ∷ decimal scale)) e in
    (record { limit = let limit : scale ≤ 62 = grind (arith, nat_tests, h.0) in limit; spelled = same bytes (83 ∷ decimal scale) h.1 }, tt)
piece_stands (Some (kinds.Number number)) bytes e =
    let h = both_pass (nat_lt number (2 ^ 63)) (bytes_eq bytes (decimal number)) e in
    let small : number < 2 ^ 63 = grind (arith, nat_tests, h.0) in
    (numeral number bytes small (same bytes (decimal number) h.1), small)
piece_stands (Some (kinds.Symbol symbol)) bytes e = (same bytes (symbol_text symbol) e, tt)

-- ---- where a piece stops

abbrev stops : Option TokenKind → List ℕ → List ℕ → Bool
stops None bytes [] = true
stops None bytes (next ∷ rest) = not (slice_index bytes 0 == 35)
stops (Some kind) bytes [] = true
stops (Some (kinds.Name name)) bytes (next ∷ rest) = not (is_name_byte next)
stops (Some (kinds.Word word)) bytes (next ∷ rest) = not (is_name_byte next)
stops (Some (kinds.Scale scale)) bytes (next ∷ rest) = not (is_name_byte next)
stops (Some (kinds.Number number)) bytes (next ∷ rest) = not (is_ascii_digit next)
stops (Some (kinds.Symbol symbol)) bytes (next ∷ rest) = all_pass (λ other. not (bytes_eq (symbol_text other) (bytes ++ next ∷ []))) all_symbols

is_no : (b : Bool) → not b ≡ true → b ≡ false
is_no true e = absurd cc
is_no false e = refl

stops_there : (kind : Option TokenKind) (bytes rest : List ℕ) → stops kind bytes rest ≡ true → StopsBefore (record { kind = kind; bytes = bytes }) rest
stops_there kind bytes [] e = tt
stops_there None bytes (next ∷ rest) e = λ first. absurd (other_than (slice_index bytes 0) 35 e first)
stops_there (Some (kinds.Name name)) bytes (next ∷ rest) e = is_no (is_name_byte next) e
stops_there (Some (kinds.Word word)) bytes (next ∷ rest) e = is_no (is_name_byte next) e
stops_there (Some (kinds.Scale scale)) bytes (next ∷ rest) e = is_no (is_name_byte next) e
stops_there (Some (kinds.Number number)) bytes (next ∷ rest) e = is_no (is_ascii_digit next) e
stops_there (Some (kinds.Symbol symbol)) bytes (next ∷ rest) e =
    λ other. apart (symbol_text other) (bytes ++ next ∷ []) (symbol_passes (λ s. not (bytes_eq (symbol_text s) (bytes ++ next ∷ []))) e other)

-- ---- texts

abbrev pub text_of : List Piece → List ℕ
text_of [] = []
text_of (p ∷ ps) = p.bytes ++ text_of ps

-- each is a piece and stops before the next
abbrev pub all_stand : List Piece → Bool
all_stand [] = true
all_stand (p ∷ ps) = (is_piece p.kind p.bytes && stops p.kind p.bytes (text_of ps)) && all_stand ps

module _ (stopped : (piece : Piece) (rest : List ℕ) → IsPiece piece → StopsBefore piece rest → Begins (piece.bytes ++ rest) piece rest) where
  pub splits : (ps : List Piece) → all_stand ps ≡ true → Splits (text_of ps) ps []
  splits [] e = refl
  splits (p ∷ ps) e =
      let h = both_pass (is_piece p.kind p.bytes && stops p.kind p.bytes (text_of ps)) (all_stand ps) e in
      let one = both_pass (is_piece p.kind p.bytes) (stops p.kind p.bytes (text_of ps)) h.0 in
      let stands = piece_stands p.kind p.bytes one.0 in
      (text_of ps, stopped p (text_of ps) stands.0 (stops_there p.kind p.bytes (text_of ps) one.1), stands.1, splits ps h.1)

-- ---- lines

abbrev pub field_line : Word → Word → List ℕ → List ℕ → List Piece
field_line spelled kind called field =
    word_piece spelled ∷ space ∷ word_piece kind ∷ space ∷ scale_piece 0 (codes "0") ∷ space ∷ name_piece called ∷ space ∷ symbol_piece symbols.Colon ∷ space ∷ name_piece field ∷ symbol_piece symbols.Semicolon ∷ newline ∷ []

abbrev pub param_line : ℕ → List ℕ → List ℕ → ℕ → List ℕ → List Piece
param_line bits bit_digits called value value_digits =
    word_piece words.Param ∷ space ∷ scale_piece bits bit_digits ∷ space ∷ name_piece called ∷ space ∷ symbol_piece symbols.Assign ∷ space ∷ number_piece value value_digits ∷ symbol_piece symbols.Semicolon ∷ newline ∷ []

-- FORCE vec S16 acc sum;
abbrev pub declare_acc : List Piece
declare_acc =
    word_piece words.Force ∷ space ∷ word_piece words.Vec ∷ space ∷ scale_piece 16 (codes "16") ∷ space ∷ name_piece (codes "acc") ∷ space ∷ word_piece words.Sum ∷ symbol_piece symbols.Semicolon ∷ newline ∷ []

-- d = xj - xi;
abbrev pub assign_d : List Piece
assign_d =
    name_piece (codes "d") ∷ space ∷ symbol_piece symbols.Assign ∷ space ∷ name_piece (codes "xj") ∷ space ∷ symbol_piece symbols.Minus ∷ space ∷ name_piece (codes "xi") ∷ symbol_piece symbols.Semicolon ∷ newline ∷ []

-- r2 = d * d + e;
abbrev pub assign_r2 : List Piece
assign_r2 =
    name_piece (codes "r2") ∷ space ∷ symbol_piece symbols.Assign ∷ space ∷ name_piece (codes "d") ∷ space ∷ symbol_piece symbols.Star ∷ space ∷ name_piece (codes "d") ∷ space ∷ symbol_piece symbols.Plus ∷ space ∷ name_piece (codes "e") ∷ symbol_piece symbols.Semicolon ∷ newline ∷ []

-- r = isqrt(r2);
abbrev pub assign_r : List Piece
assign_r =
    name_piece (codes "r") ∷ space ∷ symbol_piece symbols.Assign ∷ space ∷ word_piece words.Isqrt ∷ symbol_piece symbols.OpenRound ∷ name_piece (codes "r2") ∷ symbol_piece symbols.CloseRound ∷ symbol_piece symbols.Semicolon ∷ newline ∷ []

-- acc += muldiv(muldiv(g, mj, r), d, r2);
abbrev pub give_acc : List Piece
give_acc =
    name_piece (codes "acc") ∷ space ∷ symbol_piece symbols.Add ∷ space ∷ word_piece words.Muldiv ∷ symbol_piece symbols.OpenRound ∷ word_piece words.Muldiv ∷ symbol_piece symbols.OpenRound ∷ name_piece (codes "g") ∷ symbol_piece symbols.Comma ∷ space ∷ name_piece (codes "mj") ∷ symbol_piece symbols.Comma ∷ space ∷ name_piece (codes "r") ∷ symbol_piece symbols.CloseRound ∷ symbol_piece symbols.Comma ∷ space ∷ name_piece (codes "d") ∷ symbol_piece symbols.Comma ∷ space ∷ name_piece (codes "r2") ∷ symbol_piece symbols.CloseRound ∷ symbol_piece symbols.Semicolon ∷ newline ∷ []

-- the whole text
abbrev pub bench_pieces : List Piece
bench_pieces =
    field_line words.Epi words.Vec (codes "xi") (codes "pos")
    ++ field_line words.Epj words.Vec (codes "xj") (codes "pos")
    ++ field_line words.Epj words.Num (codes "mj") (codes "mass")
    ++ declare_acc
    ++ param_line 16 (codes "16") (codes "g") 72057594037927936 (codes "72057594037927936")
    ++ param_line 0 (codes "0") (codes "e") 1099511627776 (codes "1099511627776")
    ++ assign_d
    ++ assign_r2
    ++ assign_r
    ++ give_acc

pub all_pieces_stand : all_stand bench_pieces ≡ true
unfolding digits
all_pieces_stand = refl
