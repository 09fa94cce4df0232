-- What is known of the deck that settings make.
use Rattle.std.proofs.Common.{◌≡◌, ℕ, Bool, true, false, ◌&&◌, ◌==◌, not, cond, refl, subst, List, [], ◌∷◌, ◌++◌, Option, Some, None, Ok, Err, option_map}
use Rattle.std.specs.List.{AllByRecursion, find}
use Rattle.text_lines.specs.Lines.{FieldLine}
use Rattle.deck_file.specs.declared.deck.Deck.{Deck}
use Rattle.deck_file.specs.declared.fault.DeckFault.TheVariants as faults
use Rattle.deck_file.specs.declared.keyword.Keyword.{Keyword}
use Rattle.deck_file.specs.declared.keyword.Keyword.TheVariants as keys
use Rattle.deck_file.specs.Deck.{deck_of, deck_with, is_periodic, with_files, with_lists_built}
use Rattle.deck_file.specs.Keywords.{is_same}
use Rattle.deck_file.specs.Settings.{GiveSettings, KeyValue, is_of_form, value_in}
use Rattle.deck_file.proofs.KeywordLemmas.{is_same-Decides}

-- lists are kept in an open box alone
abbrev pub keeps_lists_round : Deck → Bool
keeps_lists_round deck = is_periodic deck.theta.edge && not (deck.reuse == 1)

-- the settings make the deck
pub record Makes (settings : List KeyValue) (deck : Deck) : Type 0 where
  pub kernel : value_in settings keys.Kernel ≡ Some deck.kernel
  pub particles : value_in settings keys.Particles ≡ Some deck.particles
  pub out : value_in settings keys.Out ≡ Some deck.out
  pub whole : deck_with settings deck.kernel deck.particles deck.out ≡ deck
  pub built : keeps_lists_round deck ≡ false

built_deck : (made deck : Deck) → with_lists_built made ≡ Ok deck → (made ≡ deck) × (keeps_lists_round made ≡ false)
built_deck made deck = go (keeps_lists_round made) refl
  where
    go : (round : Bool) → keeps_lists_round made ≡ round → cond round (Err faults.Reuse) (Ok made) ≡ Ok deck
        → (made ≡ deck) × (keeps_lists_round made ≡ false)
    go true e is = cc
    go false e is = (cc is, e)

makes_with : (settings : List KeyValue) (deck : Deck) (kernel particles out : Option (List ℕ)) → value_in settings keys.Kernel ≡ kernel
    → value_in settings keys.Particles ≡ particles → value_in settings keys.Out ≡ out → with_files settings kernel particles out ≡ Ok deck
    → Makes settings deck
makes_with settings deck None particles out k p o is = cc
makes_with settings deck (Some kernel) None out k p o is = cc
makes_with settings deck (Some kernel) (Some particles) None k p o is = cc
makes_with settings deck (Some kernel) (Some particles) (Some out) k p o is =
    let made = built_deck (deck_with settings kernel particles out) deck is in
    let of : Makes settings (deck_with settings kernel particles out) = record { kernel = k; particles = p; out = o; whole = refl; built = made.1 } in
    subst (Makes settings) made.0 of

pub makes : (settings : List KeyValue) (deck : Deck) → deck_of settings ≡ Ok deck → Makes settings deck
makes settings deck is = makes_with settings deck _ _ _ refl refl refl is

-- ---- the form of values

abbrev pub HaveForms : List KeyValue → Type 0
HaveForms = AllByRecursion (λ s. is_of_form s.key s.value ≡ true)

HaveForms-more : (settings : List KeyValue) (s : KeyValue) → HaveForms settings → is_of_form s.key s.value ≡ true → HaveForms (settings ++ s ∷ [])
HaveForms-more [] s each form = (form, tt)
HaveForms-more (t ∷ settings) s each form = (each.0, HaveForms-more settings s each.1 form)

pub given_forms : (start : List KeyValue) (lines : List FieldLine) (settings : List KeyValue) → GiveSettings start lines settings → HaveForms start
    → HaveForms settings
given_forms start [] settings given forms = subst HaveForms given forms
given_forms start (line ∷ lines) settings given forms =
    given_forms (start ++ given.0 ∷ []) lines settings given.2 (HaveForms-more start given.0 forms given.1.form)

pub form_in : (settings : List KeyValue) (key : Keyword) (value : List ℕ) → HaveForms settings → value_in settings key ≡ Some value
    → is_of_form key value ≡ true
form_in [] key value forms = λ is. cc
form_in (s ∷ settings) key value forms = go (is_same s.key key) refl (form_in settings key value forms.1)
  where
    go : (same : Bool) → is_same s.key key ≡ same → (value_in settings key ≡ Some value → is_of_form key value ≡ true)
        → option_map (λ t. t.value) (cond same (Some s) (find (λ t. is_same t.key key) settings)) ≡ Some value → is_of_form key value ≡ true
    go true e later is =
        let value_is : s.value ≡ value = cc is in
        let key_is : s.key ≡ key = (is_same-Decides s.key key).0 e in
        subst (λ v. is_of_form key v ≡ true) value_is (subst (λ k. is_of_form k s.value ≡ true) key_is forms.0)
    go false e later is = later is
