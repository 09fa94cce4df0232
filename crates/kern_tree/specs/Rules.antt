-- The rules of a grammar over tokens, and how rules are made of rules.
use Rattle.std.specs.Prelude.{◌≡◌, ◌⊎◌, ℕ, List, [], ◌∷◌}
use Rattle.kern_token.specs.declared.token.Symbol.{Symbol}
use Rattle.kern_token.specs.declared.token.Token.{Token}
use Rattle.kern_token.specs.declared.token.TokenKind.{TokenKind}
use Rattle.kern_token.specs.declared.token.TokenKind.TheVariants as kinds
use Rattle.kern_token.specs.declared.token.Word.{Word}

-- A rule says which tokens spell a value: these tokens begin with some that do, and this is the
-- rest after them. It looks at no token of the rest.
abbrev pub Rule : Type 0 → Type 1
Rule A = List Token → A → List Token → Type 0

-- no token at all
abbrev pub pure : {A : Type 0} → A → Rule A
pure value tokens read rest = (read ≡ value) × (tokens ≡ rest)

-- one after the other; a block `do` is a sequence of these
infixl 10 ◌>>=◌
abbrev pub ◌>>=◌ : {A B : Type 0} → Rule A → (A → Rule B) → Rule B
◌>>=◌ {A = A} first next tokens value rest =
    (a : A) × (between : List Token) × first tokens a between × next a between value rest

infixl 10 ◌>>◌
abbrev pub ◌>>◌ : {A B : Type 0} → Rule A → Rule B → Rule B
◌>>◌ first next = first >>= (λ _. next)

-- either
infixl 5 ◌or◌
abbrev pub ◌or◌ : {A : Type 0} → Rule A → Rule A → Rule A
◌or◌ one other tokens value rest = one tokens value rest ⊎ other tokens value rest

-- any number of them, one after another
abbrev pub many : {A : Type 0} → Rule A → Rule (List A)
many rule tokens [] rest = tokens ≡ rest
many rule tokens (value ∷ values) rest =
    (between : List Token) × rule tokens value between × many rule between values rest

-- by one of the rules
abbrev pub any : {A : Type 0} → (ℕ → Rule A) → Rule A
any rules tokens value rest = (n : ℕ) × rules n tokens value rest

-- no tokens spell anything
abbrev pub never : {A : Type 0} → Rule A
never tokens value rest = ⊥

-- ---- one token

-- a token of this kind, and its place
abbrev pub token : TokenKind → Rule ℕ
token kind tokens place rest = (end : ℕ) × (tokens ≡ record { kind = kind; place = place; end = end } ∷ rest)

abbrev pub symbol : Symbol → Rule ℕ
symbol spelled = token (kinds.Symbol spelled)

abbrev pub word : Word → Rule ℕ
word spelled = token (kinds.Word spelled)

-- what a token holds, and the token's place
pub record At (A : Type 0) : Type 0 where
  pub place : ℕ
  pub held : A

abbrev pub name : Rule (At (List ℕ))
name tokens found rest = token (kinds.Name found.held) tokens found.place rest

abbrev pub number : Rule (At ℕ)
number tokens found rest = token (kinds.Number found.held) tokens found.place rest

abbrev pub scale : Rule (At ℕ)
scale tokens found rest = token (kinds.Scale found.held) tokens found.place rest
