-- Which key a field spells.
use Rattle.std.proofs.Common.{◌≡◌, ◌∙◌, ℕ, Bool, true, false, cond, refl, sym, ap, List, Option, Some, None}
use Rattle.std.specs.Bool.{Decides}
use Rattle.std.specs.Str.{bytes_eq}
use Rattle.std.proofs.lemmas.Slice.Eq.{bytes_eq-Decides}
use Rattle.deck_file.specs.declared.keyword.Keyword.{Keyword}
use Rattle.deck_file.specs.declared.keyword.Keyword.TheVariants as keys
use Rattle.deck_file.specs.Keywords.{is_same, keyword_text}

-- the key that a text spells
abbrev or_key : List ℕ → Keyword → Option Keyword → Option Keyword
or_key text key other = cond (bytes_eq text (keyword_text key)) (Some key) other

abbrev pub key_from : List ℕ → Option Keyword
key_from text =
    or_key text keys.Kernel (or_key text keys.Particles (or_key text keys.Out (or_key text keys.Grid (or_key text keys.Theta
    (or_key text keys.Group (or_key text keys.Steps (or_key text keys.Dt (or_key text keys.Reuse (or_key text keys.Box None)))))))))

pub key_from-keyword_text : (key : Keyword) → key_from (keyword_text key) ≡ Some key
key_from-keyword_text keys.Kernel = refl
key_from-keyword_text keys.Particles = refl
key_from-keyword_text keys.Out = refl
key_from-keyword_text keys.Grid = refl
key_from-keyword_text keys.Theta = refl
key_from-keyword_text keys.Group = refl
key_from-keyword_text keys.Steps = refl
key_from-keyword_text keys.Dt = refl
key_from-keyword_text keys.Reuse = refl
key_from-keyword_text keys.Box = refl

pub keyword_text-injective : (a b : Keyword) → keyword_text a ≡ keyword_text b → a ≡ b
keyword_text-injective a b e =
    let same : Some a ≡ Some b = sym (key_from-keyword_text a) ∙ ap key_from e ∙ key_from-keyword_text b in
    cc

-- only the key that a text spells is found
or_key-sound : (text : List ℕ) (key found : Keyword) (other : Option Keyword) → (other ≡ Some found → text ≡ keyword_text found)
    → or_key text key other ≡ Some found → text ≡ keyword_text found
or_key-sound text key found other later = go (bytes_eq text (keyword_text key)) refl
  where
    go : (b : Bool) → bytes_eq text (keyword_text key) ≡ b → cond b (Some key) other ≡ Some found → text ≡ keyword_text found
    go true e is = let same : key ≡ found = cc is in (bytes_eq-Decides text (keyword_text key)).0 e ∙ ap keyword_text same
    go false e is = later is

no_key : (text : List ℕ) (found : Keyword) → None ≡ Some found → text ≡ keyword_text found
no_key text found e = cc

pub key_from-sound : (text : List ℕ) (found : Keyword) → key_from text ≡ Some found → text ≡ keyword_text found
key_from-sound text found =
    or_key-sound text keys.Kernel found _ (or_key-sound text keys.Particles found _ (or_key-sound text keys.Out found _
    (or_key-sound text keys.Grid found _ (or_key-sound text keys.Theta found _ (or_key-sound text keys.Group found _
    (or_key-sound text keys.Steps found _ (or_key-sound text keys.Dt found _ (or_key-sound text keys.Reuse found _
    (or_key-sound text keys.Box found None (no_key text found))))))))))

pub is_same-Decides : (a b : Keyword) → Decides (is_same a b) (a ≡ b)
is_same-Decides a b =
    let texts = bytes_eq-Decides (keyword_text a) (keyword_text b) in
    ((λ e. keyword_text-injective a b (texts.0 e)), λ e. texts.1 (ap keyword_text e))
