-- How items that stand in key order are found: by the key of a cell, or by the id of a particle.
use Rattle.std.specs.Prelude.{◌≡◌, ℕ, ◌≤◌, Bool, List, length, map, Some, Contains, IsPermutation, slice_get}
use Rattle.std.specs.List.{range_with_len}
use Rattle.std.specs.List.Sorted.{IsNonDecreasing, IsNonDecreasingBy}
use Rattle.pf_geom.specs.Octant.{cell_at}
use Rattle.pf_model.specs.declared.entry.Entry.{Entry}
use Rattle.pf_model.specs.declared.entry.Entry.TheVariants.{Cell, One}
use Rattle.pf_model.specs.declared.limits.TheConstants.{MOST_PARTICLES}
use Rattle.pf_model.specs.Particle.{Particle}
use Rattle.pf_model.specs.Criterion.{Criterion}
use Rattle.pf_model.specs.Division.{Division}
use Rattle.pf_model.specs.Interaction.{is_cell}
use Rattle.pf_model.specs.EssentialTree.{Essential, essential_tree}
use Rattle.pf_model.specs.Sufficiency.{lies_in}
use Rattle.group_lists.specs.declared.item_index.IdPlace.{IdPlace}
use Rattle.group_lists.specs.declared.item_index.ItemIndex.{ItemIndex}
use Rattle.group_lists.specs.declared.kept_source.KeptSource.{KeptSource}
use Rattle.group_lists.specs.declared.listed.Listed.{Listed}
use Rattle.group_lists.specs.Keyed.{item_position, item_key}
use Rattle.group_lists.specs.Listing.{SourceItems, IsSource}
use Rattle.group_lists.specs.Whole.{IsListed, GroupList}
use Rattle.morton_tree.specs.Spans.{at_span}

-- particles as items
abbrev pub as_items : List Particle → List Entry
as_items js = map (λ j. One j) js

-- the item at this place is the particle of this id
abbrev pub IsParticleAt : List Entry → IdPlace → Type 0
IsParticleAt items i = (p : Particle) × (slice_get items i.place ≡ Some (One p)) × (p.id ≡ i.id)

-- for each particle among items its id and its place, by ascending id
pub record AreIdsOf (items : List Entry) (ids : List IdPlace) : Type 0 where
  pub ascending : IsNonDecreasingBy (λ i. i.id) ids
  pub sound : (i : IdPlace) → Contains ids i → IsParticleAt items i
  pub complete : (k : ℕ) (p : Particle) → slice_get items k ≡ Some (One p) → Contains ids (record { id = p.id; place = k })

-- no id stands at two places of items
abbrev pub HaveDistinctPlaces : List Entry → Type 0
HaveDistinctPlaces items =
    (k l : ℕ) (p q : Particle) → slice_get items k ≡ Some (One p) → slice_get items l ≡ Some (One q) → p.id ≡ q.id → k ≡ l

-- an index of items in key order
pub record IsIndexOf (items : List Entry) (index : ItemIndex) : Type 0 where
  pub few : length items ≤ MOST_PARTICLES
  pub keyed : index.keys.items ≡ map item_key items
  pub ascending : IsNonDecreasing index.keys.items
  pub ids : AreIdsOf items index.ids.items
  pub distinct : HaveDistinctPlaces items

-- whether an item has its place in an entry: in its cell, or as the entry itself
abbrev pub stands_in : Entry → Entry → Bool
stands_in f (Cell c m) = is_cell c (cell_at (item_position f) c.level)
stands_in f (One p) = lies_in f (One p)

-- the items that have their place in an entry are those that lie in it: none has its corner there and is larger
abbrev pub LieByPlace : List Entry → Entry → Type 0
LieByPlace items e = (f : Entry) → Contains items f → lies_in f e ≡ stands_in f e

-- a source that is kept: each item was sent once, and is found
pub record IsKept (s : KeptSource) : Type 0 where
  pub each_once : IsPermutation (range_with_len 0 (length s.items.items)) s.places.items
  pub found : IsIndexOf s.items.items s.index

-- a source that is kept as clauses see it
abbrev pub source_items : KeptSource → SourceItems
source_items s = record { src = s.src; items = s.items.items; places = s.places.items }

-- what is kept of an essential tree that was absorbed
pub record IsKeptOf (t : Criterion) (g : Division) (js : List Particle) (tree : Essential) (s : KeptSource) : Type 0 where
  pub kept : IsKept s
  pub source : IsSource (essential_tree t g js tree.src tree.dst) tree.src (source_items s)
  pub same_items : s.items.items ≡ tree.items

-- a group with its list as clauses see it, beside the own bodies as they are now
abbrev pub group_list : List Particle → Listed → GroupList
group_list own l = record { span = l.group.span; bodies = at_span l.group.span own; entries = l.entries.items }

-- the items of a source have their places in the entries of a list in which they lie
abbrev pub FitList : List Entry → List Entry → Type 0
FitList entries items = (e : Entry) → Contains entries e → LieByPlace items e

-- what whole lists keep
pub record AreWhole (built own : List Particle) (index : ItemIndex) (listed : List Listed) (sources : List KeptSource)
    : Type 0 where
  pub few : length listed ≤ MOST_PARTICLES
  pub same_ids : map (λ j. j.id) own ≡ map (λ j. j.id) built
  pub each : (l : Listed) → Contains listed l → IsListed (length built) l.group.span l.entries.items
  pub found : IsIndexOf (as_items built) index
  pub kept : (s : KeptSource) → Contains sources s → IsKept s
  pub fit : (l : Listed) (s : KeptSource) → Contains listed l → Contains sources s → FitList l.entries.items s.items.items
