-- What the lines of a deck set.
use Rattle.std.specs.Prelude.{◌≡◌, ℕ, Bool, true, List, [], ◌∷◌, ◌++◌, Option, None, option_map, is_some, find}
use Rattle.pf_model.specs.declared.limits.TheConstants.{MOST_GROUP}
use Rattle.text_lines.specs.Lines.{FieldLine}
use Rattle.deck_file.specs.declared.keyword.Keyword.{Keyword}
use Rattle.deck_file.specs.declared.keyword.Keyword.TheVariants as keys
use Rattle.deck_file.specs.declared.limits.TheConstants.{MOST_DT, MOST_REUSE, MOST_STEPS}
use Rattle.deck_file.specs.Keywords.{keyword_text, is_same}
use Rattle.deck_file.specs.Values.{angle_of, division_of, edge_of, is_name, number_within}

-- a key with its value
pub record KeyValue : Type 0 where
  pub key : Keyword
  pub value : List ℕ

-- the fields of its line
abbrev pub setting_fields : KeyValue → List (List ℕ)
setting_fields setting = keyword_text setting.key ∷ setting.value ∷ []

-- the value that the settings give a key
abbrev pub value_in : List KeyValue → Keyword → Option (List ℕ)
value_in settings key = option_map (λ setting. setting.value) (find (λ setting. is_same setting.key key) settings)

-- the value is of the key's form
abbrev pub is_of_form : Keyword → List ℕ → Bool
is_of_form keys.Kernel value = is_name value
is_of_form keys.Particles value = is_name value
is_of_form keys.Out value = is_name value
is_of_form keys.Grid value = is_some (division_of value)
is_of_form keys.Theta value = is_some (angle_of value)
is_of_form keys.Group value = is_some (number_within 1 MOST_GROUP value)
is_of_form keys.Steps value = is_some (number_within 0 MOST_STEPS value)
is_of_form keys.Dt value = is_some (number_within 1 MOST_DT value)
is_of_form keys.Reuse value = is_some (number_within 1 MOST_REUSE value)
is_of_form keys.Box value = is_some (edge_of value)

-- the line gives a key that has no value yet, and one value of the key's form
pub record IsNext (settings : List KeyValue) (line : FieldLine) (setting : KeyValue) : Type 0 where
  pub fields : line.fields ≡ setting_fields setting
  pub first : value_in settings setting.key ≡ None
  pub form : is_of_form setting.key setting.value ≡ true

-- after lines that give the settings of `before`, these lines give all of `after`
abbrev pub GiveSettings : List KeyValue → List FieldLine → List KeyValue → Type 0
GiveSettings before [] after = before ≡ after
GiveSettings before (line ∷ lines) after =
    (setting : KeyValue) × IsNext before line setting × GiveSettings (before ++ setting ∷ []) lines after
