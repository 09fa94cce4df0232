-- Essential trees with their items in key order.
use Rattle.std.specs.Prelude.{◌≡◌, ℕ, ◌+◌, ◌^◌, ◌<◌, ◌≤◌, List, length, map, take, drop, Option, Some, None, All}
use Rattle.std.specs.Prelude.{IsPermutation, slice_index_or}
use Rattle.std.specs.List.{range_with_len}
use Rattle.std.specs.List.Sorted.{IsNonDecreasing}
use Rattle.pf_geom.specs.Position.{Position}
use Rattle.pf_geom.specs.Bounds.{Bounds, IsBox, IsWithin}
use Rattle.pf_geom.specs.Key.{morton_key}
use Rattle.pf_geom.specs.Octant.{cell_at, corner_of}
use Rattle.pf_model.specs.declared.entry.Entry.{Entry}
use Rattle.pf_model.specs.declared.entry.Entry.TheVariants.{Cell, One}
use Rattle.pf_model.specs.declared.limits.TheConstants.{MOST_PARTICLES}
use Rattle.pf_model.specs.Particle.{Particle}
use Rattle.pf_model.specs.Criterion.{Criterion}
use Rattle.pf_model.specs.Division.{Division}
use Rattle.pf_model.specs.Totals.{Totals}
use Rattle.pf_model.specs.Domains.{particles_of, domain_box}
use Rattle.pf_model.specs.EssentialTree.{Essential, essential_tree}
use Rattle.pf_model.specs.Sufficiency.{moment_together}
use Rattle.cell_runs.specs.declared.cell_run.CellRun.{CellRun}

-- where an item stands in key order: at the corner of its cell, or where the particle is
abbrev pub item_position : Entry → Position
item_position (Cell c m) = corner_of c
item_position (One p) = p.at

abbrev pub item_key : Entry → ℕ
item_key item = morton_key (item_position item)

-- the moments of the first items, for each count of them from none to all
abbrev pub item_sums : List Entry → List Totals
item_sums items = map (λ k. moment_together (take k items)) (range_with_len 0 (length items + 1))

-- the items at these places, of which each is one place of the items that were sent
pub record ArePlaced (sent : List Entry) (places : List ℕ) (items : List Entry) : Type 0 where
  pub each_once : IsPermutation (range_with_len 0 (length sent)) places
  pub items_are : (item : Entry) → items ≡ map (λ k. slice_index_or sent k item) places

-- the items of an essential tree in the order of their keys, these keys, the places at which they were sent, and the
-- moments of the first items
pub record IsKeyed (t : Criterion) (g : Division) (js : List Particle) (tree : Essential) (keys places : List ℕ)
    (sums : List Totals) : Type 0 where
  pub placed : ArePlaced (essential_tree t g js tree.src tree.dst) places tree.items
  pub same_items : IsPermutation (essential_tree t g js tree.src tree.dst) tree.items
  pub few : length tree.items ≤ MOST_PARTICLES
  pub keyed : keys ≡ map item_key tree.items
  pub fits : All (λ key. key < 2 ^ 90) keys
  pub ascending : IsNonDecreasing keys
  pub summed : sums ≡ item_sums tree.items

-- a box that an essential tree serves: it lies in the domain box of the rank that it was sent to, which has a particle
pub record IsServed (g : Division) (js : List Particle) (dst : ℕ) (box : Bounds) : Type 0 where
  pub some : 1 ≤ length (particles_of g js dst)
  pub inner : IsBox box
  pub outer : IsBox (domain_box g js dst)
  pub within : IsWithin box (domain_box g js dst)

-- the items of a run
abbrev pub items_at : CellRun → List Entry → List Entry
items_at r items = take r.len (drop r.first items)

-- the piece that a run of items with this level makes: the cell of the first with the moment of all, or the one item
abbrev pub IsPieceOfRun : List Entry → CellRun → Option ℕ → Entry → Type 0
IsPieceOfRun items r None e = slice_index_or items r.first e ≡ e
IsPieceOfRun items r (Some level) e =
    (item : Entry) → slice_index_or items r.first item ≡ item →
    e ≡ Cell (cell_at (item_position item) level) (moment_together (items_at r items))
