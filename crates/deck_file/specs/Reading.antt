-- The deck that a text spells, or its first fault.
use Rattle.std.specs.Prelude.{◌≡◌, ℕ, false, List, [], ◌∷◌, ◌++◌, ◌⊎◌, None, Result, Ok, Err, IsSome}
use Rattle.text_lines.specs.Lines.{FieldLine, field_lines}
use Rattle.deck_file.specs.declared.deck.Deck.{Deck}
use Rattle.deck_file.specs.declared.fault.DeckFault.{DeckFault}
use Rattle.deck_file.specs.declared.fault.DeckFault.TheVariants as faults
use Rattle.deck_file.specs.declared.keyword.Keyword.{Keyword}
use Rattle.deck_file.specs.Deck.{deck_of}
use Rattle.deck_file.specs.Keywords.{keyword_text}
use Rattle.deck_file.specs.Settings.{GiveSettings, KeyValue, is_of_form, value_in}

-- the settings of all lines that aren't skipped make this deck
pub record SpellsDeck (text : List ℕ) (deck : Deck) : Type 0 where
  pub settings : List KeyValue
  pub given : GiveSettings [] (field_lines text) settings
  pub deck_is : deck_of settings ≡ Ok deck

-- the line begins with this key
abbrev pub HasKey : FieldLine → Keyword → Type 0
HasKey line key = (values : List (List ℕ)) × (line.fields ≡ keyword_text key ∷ values)

-- the fault of a line after lines that give these settings
abbrev pub IsFaultAfter : List KeyValue → FieldLine → DeckFault → Type 0
IsFaultAfter settings line (faults.UnknownKey at) = (at ≡ line.number) × ((key : Keyword) → ¬ HasKey line key)
IsFaultAfter settings line (faults.Twice at) =
    (at ≡ line.number) × ((key : Keyword) × HasKey line key × IsSome (value_in settings key))
IsFaultAfter settings line (faults.Value at) =
    (at ≡ line.number) × ((key : Keyword) × HasKey line key × (value_in settings key ≡ None)
    × ((value : List ℕ) → line.fields ≡ keyword_text key ∷ value ∷ [] → is_of_form key value ≡ false))
IsFaultAfter settings line (faults.Missing key) = ⊥
IsFaultAfter settings line faults.Reuse = ⊥
IsFaultAfter settings line faults.Memory = ⊥

-- the lines before this one have no fault, and this one has it
pub record HasFaultyLine (text : List ℕ) (fault : DeckFault) : Type 0 where
  pub before : List FieldLine
  pub line : FieldLine
  pub after : List FieldLine
  pub lines : field_lines text ≡ before ++ line ∷ after
  pub settings : List KeyValue
  pub given : GiveSettings [] before settings
  pub fault_is : IsFaultAfter settings line fault

-- no line has a fault, but together they make no deck
pub record HasFaultAtEnd (text : List ℕ) (fault : DeckFault) : Type 0 where
  pub settings : List KeyValue
  pub given : GiveSettings [] (field_lines text) settings
  pub fault_is : deck_of settings ≡ Err fault

abbrev pub HasFirstDeckFault : List ℕ → DeckFault → Type 0
HasFirstDeckFault text fault = HasFaultyLine text fault ⊎ HasFaultAtEnd text fault

-- what reading the text answers
abbrev pub ReadsDeck : List ℕ → Result Deck DeckFault → Type 0
ReadsDeck text (Ok deck) = SpellsDeck text deck
ReadsDeck text (Err fault) = HasFirstDeckFault text fault

-- what a call returned is this reading, unless memory ran out
abbrev pub GivesDeckUnlessMemory : Result Deck DeckFault → Result Deck DeckFault → Type 0
GivesDeckUnlessMemory (Ok deck) reading = reading ≡ Ok deck
GivesDeckUnlessMemory (Err fault) reading = (fault ≡ faults.Memory) ⊎ (reading ≡ Err fault)
