-- The canonical text of a deck.
use Rattle.std.specs.Prelude.{ℕ, List, [], ◌∷◌, ◌++◌, map, codes, decimal}
use Rattle.pf_geom.specs.declared.edge.Edge.{Edge}
use Rattle.pf_geom.specs.declared.edge.Edge.TheVariants.{Open, Periodic}
use Rattle.pf_model.specs.Division.{Division}
use Rattle.text_lines.specs.Written.{written}
use Rattle.deck_file.specs.declared.deck.Deck.{Deck}
use Rattle.deck_file.specs.declared.keyword.Keyword.{Keyword}
use Rattle.deck_file.specs.declared.keyword.Keyword.TheVariants as keys
use Rattle.deck_file.specs.Settings.{KeyValue, setting_fields}

abbrev pub division_text : Division → List ℕ
division_text grid = decimal grid.nx ++ 120 ∷ decimal grid.ny ++ 120 ∷ decimal grid.nz

abbrev pub angle_text : ℕ → ℕ → List ℕ
angle_text a b = decimal a ++ 47 ∷ decimal b

abbrev pub edge_text : Edge → List ℕ
edge_text Open = codes "open"
edge_text Periodic = codes "periodic"

abbrev pub with_value : Keyword → List ℕ → KeyValue
with_value key value = record { key = key; value = value }

-- all ten keys
abbrev pub settings_of : Deck → List KeyValue
settings_of deck =
    with_value keys.Kernel deck.kernel ∷ with_value keys.Particles deck.particles ∷ with_value keys.Out deck.out
    ∷ with_value keys.Grid (division_text deck.grid) ∷ with_value keys.Theta (angle_text deck.theta.a deck.theta.b)
    ∷ with_value keys.Group (decimal deck.group) ∷ with_value keys.Steps (decimal deck.steps)
    ∷ with_value keys.Dt (decimal deck.dt) ∷ with_value keys.Reuse (decimal deck.reuse)
    ∷ with_value keys.Box (edge_text deck.theta.edge) ∷ []

-- a line for each key
abbrev pub deck_text : Deck → List ℕ
deck_text deck = written (map setting_fields (settings_of deck))
