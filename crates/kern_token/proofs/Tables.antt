-- The words and the symbols, each with its text.
use Rattle.std.proofs.Common.{◌≡◌, ◌≢◌, ℕ, Bool, true, false, List, [], ◌∷◌, Option, Some, None, sym, refl, ap, ◌∙◌, subst, ◌⊎◌, inl, inr, ⊎_elim}
use Rattle.std.specs.Prelude.{find}
use Rattle.std.specs.Str.{bytes_eq}
use Rattle.std.proofs.lemmas.Bool.{cases_Bool}
use Rattle.std.proofs.lemmas.Slice.Eq.{bytes_eq-Decides}
use Rattle.kern_token.specs.declared.token.Word.{Word}
use Rattle.kern_token.specs.declared.token.Word.TheVariants as words
use Rattle.kern_token.specs.declared.token.Symbol.{Symbol}
use Rattle.kern_token.specs.declared.token.Symbol.TheVariants as symbols
use Rattle.kern_token.specs.Spelling.{word_text, symbol_text}

all_words : List Word
all_words = words.Epi ∷ words.Epj ∷ words.Force ∷ words.Param ∷ words.Num ∷ words.Vec ∷ words.Sum ∷ words.Max ∷ words.Min ∷ words.If ∷ words.Else ∷ words.To ∷ words.Muldiv ∷ words.Isqrt ∷ words.Abs ∷ []

word_with : List ℕ → Option Word
word_with text = find (λ word. bytes_eq (word_text word) text) all_words

word_with_text : (word : Word) → word_with (word_text word) ≡ Some word
unfolding word_with all_words
word_with_text words.Epi = refl
word_with_text words.Epj = refl
word_with_text words.Force = refl
word_with_text words.Param = refl
word_with_text words.Num = refl
word_with_text words.Vec = refl
word_with_text words.Sum = refl
word_with_text words.Max = refl
word_with_text words.Min = refl
word_with_text words.If = refl
word_with_text words.Else = refl
word_with_text words.To = refl
word_with_text words.Muldiv = refl
word_with_text words.Isqrt = refl
word_with_text words.Abs = refl

all_symbols : List Symbol
all_symbols = symbols.Plus ∷ symbols.Minus ∷ symbols.Star ∷ symbols.Slash ∷ symbols.OpenRound ∷ symbols.CloseRound ∷ symbols.OpenCurly ∷ symbols.CloseCurly ∷ symbols.Comma ∷ symbols.Semicolon ∷ symbols.Colon ∷ symbols.Dot ∷ symbols.Assign ∷ symbols.Add ∷ symbols.Lt ∷ symbols.Le ∷ symbols.Gt ∷ symbols.Ge ∷ symbols.Eq ∷ symbols.Ne ∷ symbols.And ∷ symbols.Or ∷ symbols.Not ∷ []

symbol_with : List ℕ → Option Symbol
symbol_with text = find (λ symbol. bytes_eq (symbol_text symbol) text) all_symbols

symbol_with_text : (symbol : Symbol) → symbol_with (symbol_text symbol) ≡ Some symbol
unfolding symbol_with all_symbols
symbol_with_text symbols.Plus = refl
symbol_with_text symbols.Minus = refl
symbol_with_text symbols.Star = refl
symbol_with_text symbols.Slash = refl
symbol_with_text symbols.OpenRound = refl
symbol_with_text symbols.CloseRound = refl
symbol_with_text symbols.OpenCurly = refl
symbol_with_text symbols.CloseCurly = refl
symbol_with_text symbols.Comma = refl
symbol_with_text symbols.Semicolon = refl
symbol_with_text symbols.Colon = refl
symbol_with_text symbols.Dot = refl
symbol_with_text symbols.Assign = refl
symbol_with_text symbols.Add = refl
symbol_with_text symbols.Lt = refl
symbol_with_text symbols.Le = refl
symbol_with_text symbols.Gt = refl
symbol_with_text symbols.Ge = refl
symbol_with_text symbols.Eq = refl
symbol_with_text symbols.Ne = refl
symbol_with_text symbols.And = refl
symbol_with_text symbols.Or = refl
symbol_with_text symbols.Not = refl

pub same_word : (a b : Word) → word_text a ≡ word_text b → a ≡ b
same_word a b texts =
    let found : Some a ≡ Some b = sym (word_with_text a) ∙ ap word_with texts ∙ word_with_text b in cc

pub same_symbol : (a b : Symbol) → symbol_text a ≡ symbol_text b → a ≡ b
same_symbol a b texts =
    let found : Some a ≡ Some b = sym (symbol_with_text a) ∙ ap symbol_with texts ∙ symbol_with_text b in cc

-- what `find` finds passes the test
find_passes : {X : Type 0} (test : X → Bool) (xs : List X) (x : X) → find test xs ≡ Some x → test x ≡ true
find_passes test [] x found = cc
find_passes test (y ∷ xs) x found =
    ⊎_elim
    (λ (passes : test y ≡ true). let here : Some y ≡ Some x = (rw passes at found) in let same : y ≡ x = cc in subst (λ z. test z ≡ true) same passes)
    (λ (fails : test y ≡ false). find_passes test xs x (rw fails at found))
    (cases_Bool (test y))

-- a word has this text, or none has
pub word_or_none : (text : List ℕ) → ((word : Word) × (text ≡ word_text word)) ⊎ ((word : Word) → text ≢ word_text word)
unfolding word_with
word_or_none text =
    elim (word_with text) as (λ r. word_with text ≡ r → ((word : Word) × (text ≡ word_text word)) ⊎ ((word : Word) → text ≢ word_text word)) [
      | None ↦ λ none. inr (λ word is. let some = word_with_text word in let same = ap word_with is in cc)
      | Some word ↦ λ found. inl (word, sym ((bytes_eq-Decides (word_text word) text).0 (find_passes (λ w. bytes_eq (word_text w) text) all_words word found)))
    ] refl

-- a symbol has this text, or none has
pub symbol_or_none : (text : List ℕ) → ((symbol : Symbol) × (text ≡ symbol_text symbol)) ⊎ ((symbol : Symbol) → text ≢ symbol_text symbol)
unfolding symbol_with
symbol_or_none text =
    elim (symbol_with text) as (λ r. symbol_with text ≡ r → ((symbol : Symbol) × (text ≡ symbol_text symbol)) ⊎ ((symbol : Symbol) → text ≢ symbol_text symbol)) [
      | None ↦ λ none. inr (λ symbol is. let some = symbol_with_text symbol in let same = ap symbol_with is in cc)
      | Some symbol ↦ λ found. inl (symbol, sym ((bytes_eq-Decides (symbol_text symbol) text).0 (find_passes (λ w. bytes_eq (symbol_text w) text) all_symbols symbol found)))
    ] refl
