-- What a kernel text consists of: tokens, and the blanks and comments that separate them.
use Rattle.std.specs.Prelude.{◌≡◌, ◌≢◌, ℕ, ◌≤◌, Bool, ◌||◌, ◌==◌, ◌⊎◌, IsTrue, List, [], ◌∷◌, ◌++◌, length, Option}
use Rattle.std.specs.Prelude.{MatchOption}
use Rattle.std.specs.Char.{is_ascii_alphabetic, is_ascii_digit}
use Rattle.std.specs.Fmt.{decimal}
use Rattle.std.specs.List.{AllByRecursion}
use Rattle.std.specs.Str.Parse.{IsNumeral, digits_value}
use Rattle.kern_token.specs.declared.limits.TheConstants.{MOST_SCALE}
use Rattle.kern_token.specs.declared.token.TokenKind.{TokenKind}
use Rattle.kern_token.specs.declared.token.TokenKind.TheVariants as kinds
use Rattle.kern_token.specs.declared.token.Word.{Word}
use Rattle.kern_token.specs.Spelling.{word_text, symbol_text}

-- tab, line feed, carriage return and space
abbrev pub is_space : ℕ → Bool
is_space b = b == 9 || b == 10 || b == 13 || b == 32

-- a letter or `_`
abbrev pub is_name_start : ℕ → Bool
is_name_start b = is_ascii_alphabetic b || b == 95

-- a letter, a digit or `_`
abbrev pub is_name_byte : ℕ → Bool
is_name_byte b = is_name_start b || is_ascii_digit b

-- one blank, or `#` and bytes of its line
abbrev pub IsSeparator : List ℕ → Type 0
IsSeparator [] = ⊥
IsSeparator (b ∷ bytes) = (IsTrue (is_space b) × (bytes ≡ [])) ⊎ ((b ≡ 35) × AllByRecursion (λ c. c ≢ 10) bytes)

-- `S` and the scale in decimal, without leading zeros
pub record IsScale (scale : ℕ) (bytes : List ℕ) : Type 0 where
  pub limit : scale ≤ MOST_SCALE
  pub spelled : bytes ≡ 83 ∷ decimal scale

-- a letter or `_`, and then letters, digits and `_`
abbrev pub IsNameLike : List ℕ → Type 0
IsNameLike [] = ⊥
IsNameLike (b ∷ bytes) = IsTrue (is_name_start b) × AllByRecursion (λ c. IsTrue (is_name_byte c)) bytes

-- the words and the scales are no names
pub record IsName (bytes : List ℕ) : Type 0 where
  pub name_like : IsNameLike bytes
  pub no_word : (word : Word) → bytes ≢ word_text word
  pub no_scale : (scale : ℕ) → IsScale scale bytes → ⊥

-- the bytes are a whole token of this kind; here a number may be of any size
abbrev pub IsToken : TokenKind → List ℕ → Type 0
IsToken (kinds.Name name) bytes = (name ≡ bytes) × IsName bytes
IsToken (kinds.Word word) bytes = bytes ≡ word_text word
IsToken (kinds.Scale scale) bytes = IsScale scale bytes
IsToken (kinds.Number number) bytes = IsNumeral 10 bytes × (number ≡ digits_value 10 bytes)
IsToken (kinds.Symbol symbol) bytes = bytes ≡ symbol_text symbol

-- a piece of a text: a token, or without a kind what separates tokens
pub record Piece : Type 0 where
  pub kind : Option TokenKind
  pub bytes : List ℕ

abbrev pub IsPiece : Piece → Type 0
IsPiece piece = MatchOption piece.kind (IsSeparator piece.bytes) (λ kind. IsToken kind piece.bytes)

-- the text is the piece and then the rest, and no longer piece fits at its front
pub record Begins (text : List ℕ) (piece : Piece) (rest : List ℕ) : Type 0 where
  pub whole : IsPiece piece
  pub front : text ≡ piece.bytes ++ rest
  pub longest : (other : Piece) (after : List ℕ) → IsPiece other → text ≡ other.bytes ++ after
      → length other.bytes ≤ length piece.bytes
