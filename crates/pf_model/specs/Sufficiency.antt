-- Which items lie in an entry, and what entries stand for together.
use Rattle.std.specs.Prelude.{Bool, false, ◌&&◌, List, [], ◌∷◌, map, filter}
use Rattle.std.specs.Prelude.{nat_le, nat_eq}
use Rattle.pf_geom.specs.Octant.{cell_at, ancestor_at}
use Rattle.pf_model.specs.declared.entry.Entry.{Entry}
use Rattle.pf_model.specs.declared.entry.Entry.TheVariants.{Cell, One}
use Rattle.pf_model.specs.Totals.{Totals}
use Rattle.pf_model.specs.Sums.{moment_of, all_together}
use Rattle.pf_model.specs.Interaction.{is_cell}

-- whether an item lies in an entry: in its cell, or as the entry itself
abbrev pub lies_in : Entry → Entry → Bool
lies_in (Cell d n) (Cell c m) = nat_le c.level d.level && is_cell c (ancestor_at d c.level)
lies_in (Cell d n) (One p) = false
lies_in (One q) (Cell c m) = is_cell c (cell_at q.at c.level)
lies_in (One q) (One p) = nat_eq q.id p.id

-- the items that lie in an entry
abbrev pub items_in : Entry → List Entry → List Entry
items_in e items = filter (λ f. lies_in f e) items

-- the moment of what an entry stands for
abbrev pub entry_moment : Entry → Totals
entry_moment (Cell c m) = m
entry_moment (One p) = moment_of (p ∷ [])

-- the moments of entries added up
abbrev pub moment_together : List Entry → Totals
moment_together es = all_together (map entry_moment es)
