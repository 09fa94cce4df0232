-- The deck of its settings.
use Rattle.std.specs.Prelude.{ℕ, Bool, true, false, ◌&&◌, ◌==◌, not, if◌then◌else◌, List}
use Rattle.std.specs.Prelude.{Option, Some, None, option_and_then, unwrap_or, Result, Ok, Err}
use Rattle.pf_geom.specs.declared.edge.Edge.{Edge}
use Rattle.pf_geom.specs.declared.edge.Edge.TheVariants.{Open, Periodic}
use Rattle.pf_model.specs.Division.{Division}
use Rattle.pf_model.specs.declared.limits.TheConstants.{MOST_GROUP}
use Rattle.deck_file.specs.declared.deck.Deck.{Deck}
use Rattle.deck_file.specs.declared.fault.DeckFault.{DeckFault}
use Rattle.deck_file.specs.declared.fault.DeckFault.TheVariants as faults
use Rattle.deck_file.specs.declared.fault.Key.TheVariants as names
use Rattle.deck_file.specs.declared.keyword.Keyword.{Keyword}
use Rattle.deck_file.specs.declared.keyword.Keyword.TheVariants as keys
use Rattle.deck_file.specs.declared.limits.TheConstants.{MOST_DT, MOST_REUSE, MOST_STEPS}
use Rattle.deck_file.specs.Settings.{KeyValue, value_in}
use Rattle.deck_file.specs.Values.{angle_of, division_of, edge_of, number_within}

-- the key's value, as it is read, or the default
abbrev pub setting : {X : Type 0} → List KeyValue → Keyword → (List ℕ → Option X) → X → X
setting settings key read default = unwrap_or (option_and_then read (value_in settings key)) default

abbrev pub grid_in : List KeyValue → Division
grid_in settings = setting settings keys.Grid division_of (record { nx = 1; ny = 1; nz = 1 })

abbrev pub angle_in : List KeyValue → ℕ × ℕ
angle_in settings = setting settings keys.Theta angle_of (1, 2)

abbrev pub edge_in : List KeyValue → Edge
edge_in settings = setting settings keys.Box edge_of Open

-- the deck of these settings, which name these files
abbrev pub deck_with : List KeyValue → List ℕ → List ℕ → List ℕ → Deck
deck_with settings kernel particles out =
    record {
      kernel = kernel;
      particles = particles;
      out = out;
      grid = grid_in settings;
      theta = record { a = (angle_in settings).0; b = (angle_in settings).1; edge = edge_in settings };
      group = setting settings keys.Group (number_within 1 MOST_GROUP) 64;
      steps = setting settings keys.Steps (number_within 0 MOST_STEPS) 0;
      dt = setting settings keys.Dt (number_within 1 MOST_DT) 1;
      reuse = setting settings keys.Reuse (number_within 1 MOST_REUSE) 1;
    }

abbrev pub is_periodic : Edge → Bool
is_periodic Periodic = true
is_periodic Open = false

-- lists aren't kept in a periodic box
abbrev pub with_lists_built : Deck → Result Deck DeckFault
with_lists_built deck = if is_periodic deck.theta.edge && not (deck.reuse == 1) then Err faults.Reuse else Ok deck

abbrev pub with_files : List KeyValue → Option (List ℕ) → Option (List ℕ) → Option (List ℕ) → Result Deck DeckFault
with_files settings None particles out = Err (faults.Missing names.Kernel)
with_files settings (Some kernel) None out = Err (faults.Missing names.Particles)
with_files settings (Some kernel) (Some particles) None = Err (faults.Missing names.Out)
with_files settings (Some kernel) (Some particles) (Some out) =
    with_lists_built (deck_with settings kernel particles out)

-- the deck that all settings of a text give, or what is wrong with them
abbrev pub deck_of : List KeyValue → Result Deck DeckFault
deck_of settings =
    with_files settings (value_in settings keys.Kernel) (value_in settings keys.Particles) (value_in settings keys.Out)
