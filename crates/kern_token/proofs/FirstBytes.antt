-- The first byte of a piece tells what kinds it may have.
use Rattle.std.proofs.Common.{◌≡◌, ℕ, ◌<◌, ◌≤◌, cond, ◌||◌, true, eqb, List, [], ◌∷◌, length, get_or, Option, Some, None, refl, ap, ◌∙◌, ◌⊎◌, inl, inr, ⊎_elim, arith}
use Rattle.std.specs.Char.{is_ascii_digit, digit_value}
use Rattle.std.specs.Fmt.{decimal}
use Rattle.std.proofs.lemmas.Bool.Decides.{nat_tests}
use Rattle.std.proofs.lemmas.Str.{digit_value_digit}
use Rattle.std.proofs.lemmas.Str.Parse.{digit_from_value}
use Rattle.kern_token.specs.declared.token.TokenKind.{TokenKind}
use Rattle.kern_token.specs.declared.token.TokenKind.TheVariants as kinds
use Rattle.kern_token.specs.declared.token.Word.{Word}
use Rattle.kern_token.specs.declared.token.Word.TheVariants as words
use Rattle.kern_token.specs.declared.token.Symbol.{Symbol}
use Rattle.kern_token.specs.declared.token.Symbol.TheVariants as symbols
use Rattle.kern_token.specs.Pieces.{IsPiece, is_name_start, is_space}
use Rattle.kern_token.specs.Spelling.{word_text, symbol_text}

-- blanks and `#` are 0, a name's first byte is 1, a digit is 2, and any other byte is 3
abbrev pub class_of : ℕ → ℕ
class_of b = cond (is_space b || eqb b 35) 0 (cond (is_name_start b) 1 (cond (is_ascii_digit b) 2 3))

abbrev pub class_of_kind : Option TokenKind → ℕ
class_of_kind None = 0
class_of_kind (Some (kinds.Name name)) = 1
class_of_kind (Some (kinds.Word word)) = 1
class_of_kind (Some (kinds.Scale scale)) = 1
class_of_kind (Some (kinds.Number number)) = 2
class_of_kind (Some (kinds.Symbol symbol)) = 3

pub class_of-blank : (b : ℕ) → is_space b ≡ true → class_of b ≡ 0
class_of-blank b blank = grind (arith, nat_tests)

pub class_of-name_start : (b : ℕ) → is_name_start b ≡ true → class_of b ≡ 1
class_of-name_start b start = grind (arith, nat_tests)

pub class_of-digit : (b : ℕ) → is_ascii_digit b ≡ true → class_of b ≡ 2
class_of-digit b digit = grind (arith, nat_tests)

pub name_start_from_class : (b : ℕ) → class_of b ≡ 1 → is_name_start b ≡ true
name_start_from_class b class = grind (arith, nat_tests)

pub digit_from_class : (b : ℕ) → class_of b ≡ 2 → is_ascii_digit b ≡ true
digit_from_class b class = grind (arith, nat_tests)

pub digit_test : (b : ℕ) → digit_value b < 10 → is_ascii_digit b ≡ true
digit_test b value = let range = digit_from_value b value in grind (arith, nat_tests)

pub digit_value_below : (b : ℕ) → is_ascii_digit b ≡ true → digit_value b < 10
digit_value_below b digit =
    let low : 48 ≤ b = grind (arith, nat_tests) in
    let high : b ≤ 57 = grind (arith, nat_tests) in
    let value = digit_value_digit b (low, high) in
    omega arith

word_class : (word : Word) → class_of (get_or (word_text word) 0 35) ≡ 1
word_class words.Epi = refl
word_class words.Epj = refl
word_class words.Force = refl
word_class words.Param = refl
word_class words.Num = refl
word_class words.Vec = refl
word_class words.Sum = refl
word_class words.Max = refl
word_class words.Min = refl
word_class words.If = refl
word_class words.Else = refl
word_class words.To = refl
word_class words.Muldiv = refl
word_class words.Isqrt = refl
word_class words.Abs = refl

symbol_class : (symbol : Symbol) → class_of (get_or (symbol_text symbol) 0 35) ≡ 3
symbol_class symbols.Plus = refl
symbol_class symbols.Minus = refl
symbol_class symbols.Star = refl
symbol_class symbols.Slash = refl
symbol_class symbols.OpenRound = refl
symbol_class symbols.CloseRound = refl
symbol_class symbols.OpenCurly = refl
symbol_class symbols.CloseCurly = refl
symbol_class symbols.Comma = refl
symbol_class symbols.Semicolon = refl
symbol_class symbols.Colon = refl
symbol_class symbols.Dot = refl
symbol_class symbols.Assign = refl
symbol_class symbols.Add = refl
symbol_class symbols.Lt = refl
symbol_class symbols.Le = refl
symbol_class symbols.Gt = refl
symbol_class symbols.Ge = refl
symbol_class symbols.Eq = refl
symbol_class symbols.Ne = refl
symbol_class symbols.And = refl
symbol_class symbols.Or = refl
symbol_class symbols.Not = refl

pub symbol_size : (symbol : Symbol) → (length (symbol_text symbol) ≡ 1) ⊎ (length (symbol_text symbol) ≡ 2)
symbol_size symbols.Plus = inl refl
symbol_size symbols.Minus = inl refl
symbol_size symbols.Star = inl refl
symbol_size symbols.Slash = inl refl
symbol_size symbols.OpenRound = inl refl
symbol_size symbols.CloseRound = inl refl
symbol_size symbols.OpenCurly = inl refl
symbol_size symbols.CloseCurly = inl refl
symbol_size symbols.Comma = inl refl
symbol_size symbols.Semicolon = inl refl
symbol_size symbols.Colon = inl refl
symbol_size symbols.Dot = inl refl
symbol_size symbols.Assign = inl refl
symbol_size symbols.Add = inr refl
symbol_size symbols.Lt = inl refl
symbol_size symbols.Le = inr refl
symbol_size symbols.Gt = inl refl
symbol_size symbols.Ge = inr refl
symbol_size symbols.Eq = inr refl
symbol_size symbols.Ne = inr refl
symbol_size symbols.And = inr refl
symbol_size symbols.Or = inr refl
symbol_size symbols.Not = inl refl

-- a piece is of the class of its first byte
pub class_of_piece : (kind : Option TokenKind) (b : ℕ) (bytes : List ℕ) → IsPiece (record { kind = kind; bytes = b ∷ bytes }) → class_of b ≡ class_of_kind kind
class_of_piece None b bytes piece =
    ⊎_elim (λ (blank : (is_space b ≡ true) × (bytes ≡ [])). class_of-blank b blank.0) (λ comment. ap class_of comment.0) piece
class_of_piece (Some (kinds.Name name)) b bytes piece = class_of-name_start b piece.1.name_like.0
class_of_piece (Some (kinds.Word word)) b bytes piece =
    ap (λ (xs : List ℕ). class_of (get_or xs 0 35)) piece ∙ word_class word
class_of_piece (Some (kinds.Scale scale)) b bytes piece =
    ap (λ (xs : List ℕ). class_of (get_or xs 0 35)) piece.spelled
class_of_piece (Some (kinds.Number number)) b bytes piece = class_of-digit b (digit_test b piece.0.1.0)
class_of_piece (Some (kinds.Symbol symbol)) b bytes piece =
    ap (λ (xs : List ℕ). class_of (get_or xs 0 35)) piece ∙ symbol_class symbol

-- a piece has a byte
pub IsPiece-nonempty : (kind : Option TokenKind) (bytes : List ℕ) → IsPiece (record { kind = kind; bytes = bytes }) → 0 < length bytes
IsPiece-nonempty kind (b ∷ bytes) piece = omega arith
IsPiece-nonempty None [] piece = absurd piece
IsPiece-nonempty (Some (kinds.Name name)) [] piece = absurd piece.1.name_like
IsPiece-nonempty (Some (kinds.Word word)) [] piece =
    let class = ap (λ (xs : List ℕ). class_of (get_or xs 0 35)) piece ∙ word_class word in omega (arith, class)
IsPiece-nonempty (Some (kinds.Scale scale)) [] piece =
    let spelled : [] ≡ 83 ∷ decimal scale = piece.spelled in cc
IsPiece-nonempty (Some (kinds.Number number)) [] piece = piece.0.0
IsPiece-nonempty (Some (kinds.Symbol symbol)) [] piece =
    let class = ap (λ (xs : List ℕ). class_of (get_or xs 0 35)) piece ∙ symbol_class symbol in omega (arith, class)
