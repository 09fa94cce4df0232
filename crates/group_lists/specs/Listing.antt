-- Whole lists with what their entries are made of: the own bodies, and the items of the other ranks.
use Rattle.std.specs.Prelude.{◌≡◌, ℕ, ◌+◌, ◌<◌, ◌≤◌, ◌↔◌, Bool, IsTrue, List, length, map, take, drop, Some}
use Rattle.std.specs.Prelude.{slice_get, slice_set, slice_index_or}
use Rattle.std.specs.List.Sorted.{IsNonDecreasing}
use Rattle.pf_model.specs.declared.entry.Entry.{Entry}
use Rattle.pf_model.specs.declared.entry.Entry.TheVariants.{Cell, One}
use Rattle.pf_model.specs.Particle.{Particle}
use Rattle.pf_model.specs.Totals.{Totals}
use Rattle.pf_model.specs.Sufficiency.{lies_in}
use Rattle.morton_tree.specs.declared.span.Span.{Span}
use Rattle.morton_tree.specs.Spans.{at_span}
use Rattle.group_lists.specs.Keyed.{item_key, ArePlaced}
use Rattle.group_lists.specs.Whole.{GroupList}

-- another rank as clauses see it: its number, the items of its essential tree at the build in key order, and for each
-- of them the place at which it was sent, counted from 0
pub record SourceItems : Type 0 where
  pub src : ℕ
  pub items : List Entry
  pub places : List ℕ

-- lists as clauses see them: the own bodies in the order of the tree, as they were at the build and as they are now,
-- the groups, and the other ranks
pub record Listing : Type 0 where
  pub built : List Particle
  pub own : List Particle
  pub groups : List GroupList
  pub sources : List SourceItems

-- the items that a rank sent, put in key order
pub record IsSource (sent : List Entry) (src : ℕ) (s : SourceItems) : Type 0 where
  pub rank : s.src ≡ src
  pub placed : ArePlaced sent s.places s.items
  pub in_key_order : IsNonDecreasing (map item_key s.items)

-- what holds of a group
abbrev pub OfGroup : List GroupList → ℕ → (GroupList → Type 0) → Type 0
OfGroup groups n P = (g : GroupList) → slice_get groups n ≡ Some g → P g

-- what holds of the entry at a place of a group's list
abbrev pub OfEntry : List GroupList → ℕ → ℕ → (Entry → Type 0) → Type 0
OfEntry groups n place P = (e : Entry) → OfGroup groups n (λ g. slice_get g.entries place ≡ Some e → P e)

-- what holds of another rank
abbrev pub OfSource : List SourceItems → ℕ → (SourceItems → Type 0) → Type 0
OfSource sources n P = (s : SourceItems) → slice_get sources n ≡ Some s → P s

-- a place of a span
abbrev pub IsPlaceOf : Span → ℕ → Type 0
IsPlaceOf s k = (s.first ≤ k) × (k < s.first + s.len)

-- the places of the elements that pass a test are those of the span
pub record IsSpanOf {X : Type 0} (test : X → Bool) (xs : List X) (s : Span) : Type 0 where
  pub inside : s.first + s.len ≤ length xs
  pub exactly : (k : ℕ) (x : X) → k < length xs → IsTrue (test (slice_index_or xs k x)) ↔ IsPlaceOf s k

-- the items of a span
abbrev pub items_at_span : Span → List Entry → List Entry
items_at_span s items = take s.len (drop s.first items)

-- whether a particle lies in an entry
abbrev pub body_lies_in : Entry → Particle → Bool
body_lies_in e j = lies_in (One j) e

-- the entry is a cell with so many members
abbrev pub HasCount : ℕ → Entry → Type 0
HasCount n (Cell c m) = m.count ≡ n
HasCount n (One p) = ⊥

-- the entry is the particle of this id
abbrev pub HasId : ℕ → Entry → Type 0
HasId id (Cell c m) = ⊥
HasId id (One p) = p.id ≡ id

-- a cell with another moment
abbrev pub with_moment : Totals → Entry → Entry
with_moment m (Cell c n) = Cell c m
with_moment m (One p) = One p

-- lists in which the entry at a place of a group's list is another one, and all else is as before
abbrev pub IsWithEntry : Listing → ℕ → ℕ → (Entry → Entry) → Listing → Type 0
IsWithEntry before n place change after =
    (e : Entry) → OfGroup before.groups n (λ g. slice_get g.entries place ≡ Some e →
    after ≡ record before {
      groups = slice_set before.groups n (record g { entries = slice_set g.entries place (change e) });
    })

-- a group with the bodies at its span
abbrev pub with_bodies : List Particle → GroupList → GroupList
with_bodies own g = record g { bodies = at_span g.span own }

-- lists in which groups have other own bodies, and all else is as before
abbrev pub with_own : List Particle → Listing → Listing
with_own own lists = record lists { own = own; groups = map (with_bodies own) lists.groups }
