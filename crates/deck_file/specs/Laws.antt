-- What holds of every deck that a text spells.
use Rattle.std.specs.Prelude.{◌≡◌, ℕ, ◌≤◌, true, List, Result}
use Rattle.pf_model.specs.declared.limits.TheConstants.{MOST_GROUP}
use Rattle.deck_file.specs.declared.deck.Deck.{Deck}
use Rattle.deck_file.specs.declared.fault.DeckFault.{DeckFault}
use Rattle.deck_file.specs.declared.limits.TheConstants.{MOST_DT, MOST_REUSE, MOST_STEPS}
use Rattle.deck_file.specs.Printed.{deck_text}
use Rattle.deck_file.specs.Reading.{ReadsDeck, SpellsDeck}
use Rattle.deck_file.specs.Values.{is_name}

abbrev pub EveryTextHasAReading : Type 0
EveryTextHasAReading = (text : List ℕ) → (reading : Result Deck DeckFault) × ReadsDeck text reading

abbrev pub NoTextHasTwoReadings : Type 0
NoTextHasTwoReadings = (text : List ℕ) (a b : Result Deck DeckFault) → ReadsDeck text a → ReadsDeck text b → a ≡ b

-- the limits of a deck's numbers, and the form of its names
pub record IsWithinLimits (deck : Deck) : Type 0 where
  pub kernel : is_name deck.kernel ≡ true
  pub particles : is_name deck.particles ≡ true
  pub out : is_name deck.out ≡ true
  pub some_group : 1 ≤ deck.group
  pub small_group : deck.group ≤ MOST_GROUP
  pub few_steps : deck.steps ≤ MOST_STEPS
  pub some_dt : 1 ≤ deck.dt
  pub small_dt : deck.dt ≤ MOST_DT
  pub some_reuse : 1 ≤ deck.reuse
  pub small_reuse : deck.reuse ≤ MOST_REUSE

abbrev pub DecksKeepTheirLimits : Type 0
DecksKeepTheirLimits = (text : List ℕ) (deck : Deck) → SpellsDeck text deck → IsWithinLimits deck

abbrev pub PrintedDecksReadBack : Type 0
PrintedDecksReadBack = (text : List ℕ) (deck : Deck) → SpellsDeck text deck → SpellsDeck (deck_text deck) deck
