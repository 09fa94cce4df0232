-- What the pieces of a list, which are its part over one source, have in common with what was gathered before.
use Rattle.std.specs.Prelude.{◌≡◌, ℕ, ◌+◌, ◌<◌, ◌≤◌, Bool, false, cond, ◌||◌, ⊤, List, ◌∷◌, length, drop, count_by}
use Rattle.std.specs.Prelude.{Contains}
use Rattle.std.specs.List.{list_any}
use Rattle.pf_geom.specs.Octant.{cell_at}
use Rattle.pf_model.specs.declared.entry.Entry.{Entry}
use Rattle.pf_model.specs.declared.entry.Entry.TheVariants.{Cell, One}
use Rattle.pf_model.specs.declared.limits.TheConstants.{MOST_PARTICLES}
use Rattle.pf_model.specs.Particle.{Particle}
use Rattle.pf_model.specs.Interaction.{is_cell}
use Rattle.pf_model.specs.EssentialTree.{Essential}
use Rattle.pf_model.specs.Merging.{merged, common_count}
use Rattle.group_lists.specs.Keyed.{item_position}

-- two cells have few members together
abbrev pub AreFewTogether : Entry → Entry → Type 0
AreFewTogether (Cell c m) (Cell d n) = m.count + n.count ≤ MOST_PARTICLES
AreFewTogether (Cell c m) (One q) = ⊤
AreFewTogether (One p) f = ⊤

-- so have any two of both lists
abbrev pub HaveFewMembers : List Entry → List Entry → Type 0
HaveFewMembers es fs = (e f : Entry) → Contains es e → Contains fs f → AreFewTogether e f

-- what two lists merged from some places on begin with, and the places from which what follows is merged
pub record IsNextOfBoth (es fs : List Entry) (i k : ℕ) (e : Entry) (i_next k_next : ℕ) : Type 0 where
  pub first_within : i_next ≤ length es
  pub second_within : k_next ≤ length fs
  pub later : i + k < i_next + k_next
  pub rest : merged (drop i es) (drop k fs) ≡ e ∷ merged (drop i_next es) (drop k_next fs)

-- whether one of the particles, or an item of one of the trees, has its place in the cell of an entry
abbrev pub is_occupied : List Particle → List Essential → Entry → Bool
is_occupied own trees (Cell c m) =
    list_any (λ j. is_cell c (cell_at j.at c.level)) own
    || list_any (λ tree. list_any (λ item. is_cell c (cell_at (item_position item) c.level)) tree.items) trees
is_occupied own trees (One p) = false

-- how many of the pieces have their cell among what was gathered before: in the list, if it is kept
abbrev pub common_with : List Particle → List Essential → Bool → List Entry → List Entry → ℕ
common_with own trees few pieces entries =
    cond few (common_count pieces entries) (count_by (is_occupied own trees) pieces)
