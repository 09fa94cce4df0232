-- Lines that are pushed one after another.
use Rattle.std.proofs.Common.{◌≡◌, ◌∙◌, ℕ, sym, ap, List, [], ◌∷◌, ◌++◌, map, append_assoc, append-nil}
use Rattle.text_lines.specs.Written.{written, written_line}
use Rattle.deck_file.specs.Settings.{KeyValue, setting_fields}

-- the lines of these settings are pushed in turn
abbrev pub Pushed : List ℕ → List KeyValue → List ℕ → Type 0
Pushed before [] after = before ≡ after
Pushed before (s ∷ settings) after = (next : List ℕ) × (next ≡ before ++ written_line (setting_fields s)) × Pushed next settings after

pub pushed_text : (before : List ℕ) (settings : List KeyValue) (after : List ℕ) → Pushed before settings after
    → after ≡ before ++ written (map setting_fields settings)
pushed_text before [] after p = sym p ∙ sym (append-nil before)
pushed_text before (s ∷ settings) after p =
    pushed_text p.0 settings after p.2 ∙ ap (λ front. front ++ written (map setting_fields settings)) p.1
    ∙ append_assoc before (written_line (setting_fields s)) (written (map setting_fields settings))
