-- Classes of tokens: what the grammar sees of a token when it decides how to go on.
use Rattle.std.proofs.Common.{◌≡◌, ℕ, ◌<◌, Bool, true, false, not, ◌&&◌, eqb, IsTrue, List, [], ◌∷◌, ◌++◌, length, sym, refl, subst, ◌⊎◌, inl, inr, arith}
use Rattle.std.specs.List.{AllByRecursion}
use Rattle.kern_token.specs.declared.token.Symbol.{Symbol}
use Rattle.kern_token.specs.declared.token.Symbol.TheVariants as symbols
use Rattle.kern_token.specs.declared.token.Token.{Token}
use Rattle.kern_token.specs.declared.token.TokenKind.{TokenKind}
use Rattle.kern_token.specs.declared.token.TokenKind.TheVariants as kinds
use Rattle.kern_token.specs.declared.token.Word.{Word}
use Rattle.kern_token.specs.declared.token.Word.TheVariants as words

abbrev pub word_class : Word → ℕ
word_class words.Epi = 3
word_class words.Epj = 4
word_class words.Force = 5
word_class words.Param = 6
word_class words.Num = 7
word_class words.Vec = 8
word_class words.Sum = 9
word_class words.Max = 10
word_class words.Min = 11
word_class words.If = 12
word_class words.Else = 13
word_class words.To = 14
word_class words.Muldiv = 15
word_class words.Isqrt = 16
word_class words.Abs = 17

abbrev pub symbol_class : Symbol → ℕ
symbol_class symbols.Plus = 18
symbol_class symbols.Minus = 19
symbol_class symbols.Star = 20
symbol_class symbols.Slash = 21
symbol_class symbols.OpenRound = 22
symbol_class symbols.CloseRound = 23
symbol_class symbols.OpenCurly = 24
symbol_class symbols.CloseCurly = 25
symbol_class symbols.Comma = 26
symbol_class symbols.Semicolon = 27
symbol_class symbols.Colon = 28
symbol_class symbols.Dot = 29
symbol_class symbols.Assign = 30
symbol_class symbols.Add = 31
symbol_class symbols.Lt = 32
symbol_class symbols.Le = 33
symbol_class symbols.Gt = 34
symbol_class symbols.Ge = 35
symbol_class symbols.Eq = 36
symbol_class symbols.Ne = 37
symbol_class symbols.And = 38
symbol_class symbols.Or = 39
symbol_class symbols.Not = 40

abbrev pub class : TokenKind → ℕ
class (kinds.Name name) = 0
class (kinds.Scale bits) = 1
class (kinds.Number value) = 2
class (kinds.Word word) = word_class word
class (kinds.Symbol symbol) = symbol_class symbol

-- ---- sets of classes

abbrev pub In : ℕ → List ℕ → Type 0
In c [] = ⊥
In c (d ∷ ds) = (c ≡ d) ⊎ In c ds

pub In-left : (c : ℕ) (xs ys : List ℕ) → In c xs → In c (xs ++ ys)
In-left c [] ys h = absurd h
In-left c (x ∷ xs) ys (inl e) = inl e
In-left c (x ∷ xs) ys (inr h) = inr (In-left c xs ys h)

pub In-right : (c : ℕ) (xs ys : List ℕ) → In c ys → In c (xs ++ ys)
In-right c [] ys h = h
In-right c (x ∷ xs) ys h = inr (In-right c xs ys h)

abbrev pub lacks : ℕ → List ℕ → Bool
lacks c [] = true
lacks c (d ∷ ds) = not (eqb c d) && lacks c ds

-- no class is in both
abbrev pub apart : List ℕ → List ℕ → Bool
apart [] ys = true
apart (x ∷ xs) ys = lacks x ys && apart xs ys

and_left : (a b : Bool) → IsTrue (a && b) → IsTrue a
and_left true b h = refl
and_left false b h = h

and_right : (a b : Bool) → IsTrue (a && b) → IsTrue b
and_right true b h = h
and_right false b h = absurd (let e : false ≡ true = h in cc)

not_same : (c d : ℕ) → IsTrue (not (eqb c d)) → c ≡ d → ⊥
not_same c d h e = let k : IsTrue (not (eqb d d)) = subst (λ n. IsTrue (not (eqb n d))) e h in grind arith

lacks_none : (c : ℕ) (ys : List ℕ) → IsTrue (lacks c ys) → In c ys → ⊥
lacks_none c [] h i = i
lacks_none c (y ∷ ys) h (inl e) = not_same c y (and_left (not (eqb c y)) (lacks c ys) h) e
lacks_none c (y ∷ ys) h (inr i) = lacks_none c ys (and_right (not (eqb c y)) (lacks c ys) h) i

pub apart_none : (c : ℕ) (xs ys : List ℕ) → IsTrue (apart xs ys) → In c xs → In c ys → ⊥
apart_none c [] ys h i j = i
apart_none c (x ∷ xs) ys h (inl e) j = lacks_none x ys (and_left (lacks x ys) (apart xs ys) h) (subst (λ n. In n ys) e j)
apart_none c (x ∷ xs) ys h (inr i) j = apart_none c xs ys (and_right (lacks x ys) (apart xs ys) h) i j

-- ---- tokens

-- the first token is there, and its class is one of these
abbrev pub BeginsIn : List ℕ → List Token → Type 0
BeginsIn set [] = ⊥
BeginsIn set (t ∷ ts) = In (class t.kind) set

pub BeginsIn-append : (set : List ℕ) (ts rest : List Token) → BeginsIn set ts → BeginsIn set (ts ++ rest)
BeginsIn-append set [] rest h = absurd h
BeginsIn-append set (t ∷ ts) rest h = h

pub BeginsIn-left : (xs ys : List ℕ) (ts : List Token) → BeginsIn xs ts → BeginsIn (xs ++ ys) ts
BeginsIn-left xs ys [] h = h
BeginsIn-left xs ys (t ∷ ts) h = In-left (class t.kind) xs ys h

pub BeginsIn-right : (xs ys : List ℕ) (ts : List Token) → BeginsIn ys ts → BeginsIn (xs ++ ys) ts
BeginsIn-right xs ys [] h = h
BeginsIn-right xs ys (t ∷ ts) h = In-right (class t.kind) xs ys h

pub BeginsIn-apart : (xs ys : List ℕ) (ts : List Token) → IsTrue (apart xs ys) → BeginsIn xs ts → BeginsIn ys ts → ⊥
BeginsIn-apart xs ys [] h i j = i
BeginsIn-apart xs ys (t ∷ ts) h i j = apart_none (class t.kind) xs ys h i j

pub BeginsIn-longer : (set : List ℕ) (ts : List Token) → BeginsIn set ts → 0 < length ts
BeginsIn-longer set [] h = absurd h
BeginsIn-longer set (t ∷ ts) h = omega arith

-- ---- places

-- the number is the place of one of the tokens
abbrev pub IsPlaceOf : List Token → ℕ → Type 0
IsPlaceOf [] place = ⊥
IsPlaceOf (t ∷ ts) place = (place ≡ t.place) ⊎ IsPlaceOf ts place

abbrev pub Placed : List ℕ → List Token → Type 0
Placed places tokens = AllByRecursion (IsPlaceOf tokens) places

IsPlaceOf-left : (place : ℕ) (ss ts : List Token) → IsPlaceOf ss place → IsPlaceOf (ss ++ ts) place
IsPlaceOf-left place [] ts h = absurd h
IsPlaceOf-left place (s ∷ ss) ts (inl e) = inl e
IsPlaceOf-left place (s ∷ ss) ts (inr h) = inr (IsPlaceOf-left place ss ts h)

IsPlaceOf-right : (place : ℕ) (ss ts : List Token) → IsPlaceOf ts place → IsPlaceOf (ss ++ ts) place
IsPlaceOf-right place [] ts h = h
IsPlaceOf-right place (s ∷ ss) ts h = inr (IsPlaceOf-right place ss ts h)

pub Placed-left : (places : List ℕ) (ss ts : List Token) → Placed places ss → Placed places (ss ++ ts)
Placed-left [] ss ts h = tt
Placed-left (p ∷ ps) ss ts h = (IsPlaceOf-left p ss ts h.0, Placed-left ps ss ts h.1)

pub Placed-right : (places : List ℕ) (ss ts : List Token) → Placed places ts → Placed places (ss ++ ts)
Placed-right [] ss ts h = tt
Placed-right (p ∷ ps) ss ts h = (IsPlaceOf-right p ss ts h.0, Placed-right ps ss ts h.1)

pub Placed-append : (ps qs : List ℕ) (ts : List Token) → Placed ps ts → Placed qs ts → Placed (ps ++ qs) ts
Placed-append [] qs ts h k = k
Placed-append (p ∷ ps) qs ts h k = (h.0, Placed-append ps qs ts h.1 k)

-- each class of the one set is in the other
abbrev pub covers : List ℕ → List ℕ → Bool
covers ys [] = true
covers ys (x ∷ xs) = not (lacks x ys) && covers ys xs

has_at : (c : ℕ) (y : ℕ) (ys : List ℕ) (b : Bool) → eqb c y ≡ b → IsTrue (not (not b && lacks c ys)) → (IsTrue (not (lacks c ys)) → In c ys) → In c (y ∷ ys)
has_at c y ys true e h further = inl (grind arith)
has_at c y ys false e h further = inr (further h)

has_some : (c : ℕ) (ys : List ℕ) → IsTrue (not (lacks c ys)) → In c ys
has_some c [] h = let never : false ≡ true = h in cc
has_some c (y ∷ ys) h = has_at c y ys (eqb c y) refl h (has_some c ys)

pub In-covered : (c : ℕ) (ys xs : List ℕ) → IsTrue (covers ys xs) → In c xs → In c ys
In-covered c ys [] h i = absurd i
In-covered c ys (x ∷ xs) h (inl e) = subst (λ n. In n ys) (sym e) (has_some x ys (and_left (not (lacks x ys)) (covers ys xs) h))
In-covered c ys (x ∷ xs) h (inr i) = In-covered c ys xs (and_right (not (lacks x ys)) (covers ys xs) h) i

pub BeginsIn-covered : (ys xs : List ℕ) (ts : List Token) → IsTrue (covers ys xs) → BeginsIn xs ts → BeginsIn ys ts
BeginsIn-covered ys xs [] h i = i
BeginsIn-covered ys xs (t ∷ ts) h i = In-covered (class t.kind) ys xs h i
