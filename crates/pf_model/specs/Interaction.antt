-- Interaction lists: each particle is judged by itself.
use Rattle.std.specs.Prelude.{ℕ, ◌+◌, ◌*◌, Bool, true, false, ◌&&◌, ◌||◌, List, [], ◌∷◌, map, filter, Option, Some}
use Rattle.std.specs.Prelude.{None, is_none, nat_lt, nat_le, nat_eq, IsTrue, AllPairs}
use Rattle.pf_geom.specs.declared.cell.TheConstants.{DEEPEST}
use Rattle.pf_geom.specs.Position.{Position}
use Rattle.pf_geom.specs.Bounds.{Bounds}
use Rattle.pf_geom.specs.Octant.{Octant, side_at, cell_at}
use Rattle.pf_geom.specs.Gap.{square, gap2_to}
use Rattle.pf_model.specs.declared.entry.Entry.{Entry}
use Rattle.pf_model.specs.declared.entry.Entry.TheVariants.{Cell, One}
use Rattle.pf_model.specs.Particle.{Particle}
use Rattle.pf_model.specs.Criterion.{Criterion}
use Rattle.pf_model.specs.Totals.{Source}
use Rattle.order_laws.specs.Order.{least_below, in_order_once}
use Rattle.pf_model.specs.Sums.{moment_of, source_of}

-- whether `Passes` holds
abbrev pub passes : Bounds → Octant → Criterion → Bool
passes box c t = nat_le (square (side_at c.level) * square t.b) (gap2_to t.edge box c * square t.a)

-- the least level at which the position's cell passes, if there is one
unfoldable pub level_of : Criterion → Bounds → Position → Option ℕ
level_of t box p = least_below (λ level. passes box (cell_at p level) t) (DEEPEST + 1)

abbrev pub is_cell : Octant → Octant → Bool
is_cell c d = nat_eq c.level d.level && nat_eq c.key d.key

-- whether the position's cell at that level, if there is one, is this cell
abbrev pub is_cell_at : Octant → Position → Option ℕ → Bool
is_cell_at c p None = false
is_cell_at c p (Some level) = is_cell c (cell_at p level)

-- whether the particle leads to the cell
abbrev pub leads_to_cell : Criterion → Bounds → Octant → Particle → Bool
leads_to_cell t box c j = is_cell_at c j.at (level_of t box j.at)

-- the entry of a particle whose cell first passes at this level, if there is one
abbrev pub entry_at : Criterion → Bounds → List Particle → Particle → Option ℕ → Entry
entry_at t box js j None = One j
entry_at t box js j (Some level) = let c = cell_at j.at level in Cell c (moment_of (filter (leads_to_cell t box c) js))

-- the entry that a particle of js leads to: its first passing cell with the moment of the particles that
-- lead there, or else the particle
abbrev pub entry_of : Criterion → Bounds → List Particle → Particle → Entry
entry_of t box js j = entry_at t box js j (level_of t box j.at)

-- cells come first, by level and then key, and after them particles, by id
abbrev pub comes_before : Entry → Entry → Bool
comes_before (Cell c m) (Cell d n) = nat_lt c.level d.level || (nat_eq c.level d.level && nat_lt c.key d.key)
comes_before (Cell c m) (One q) = true
comes_before (One p) (Cell d n) = false
comes_before (One p) (One q) = nat_lt p.id q.id

-- the place of an entry: cells by level and key, and after them, past the deepest level, particles by id
abbrev pub entry_place : Entry → ℕ × ℕ
entry_place (Cell c m) = (c.level, c.key)
entry_place (One p) = (DEEPEST + 1, p.id)

-- each entry comes before all later ones
abbrev pub IsInListOrder : List Entry → Type 0
IsInListOrder es = AllPairs (λ e f. IsTrue (comes_before e f)) es

-- the list of a box over the particles js: the entries that they lead to, each once, in order
unfoldable pub list_of : Criterion → Bounds → List Particle → List Entry
list_of t box js = in_order_once comes_before (map (entry_of t box js) js)

-- whether the particle leads to the entry
abbrev pub leads_to : Criterion → Bounds → Entry → Particle → Bool
leads_to t box (Cell c m) j = leads_to_cell t box c j
leads_to t box (One p) j = is_none (level_of t box j.at) && nat_eq p.id j.id

-- the members of an entry of the list over the particles js
abbrev pub members_of : Criterion → Bounds → List Particle → Entry → List Particle
members_of t box js e = filter (leads_to t box e) js

-- the source that an entry is: a particle is seen as the moment of itself
abbrev pub entry_source : Entry → Source
entry_source (Cell c m) = source_of m
entry_source (One p) = source_of (moment_of (p ∷ []))
