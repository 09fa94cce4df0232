-- The items that lie in the entries of a list are those that have their places there.
use Rattle.std.proofs.Common.{◌≡◌, List, refl, sym, ◌∙◌, ap, subst, arith}
use Rattle.std.specs.List.{Contains}
use Rattle.std.proofs.lemmas.List.Sorted.{Contains-permutation, IsPermutation-sym}
use Rattle.pf_geom.specs.Position.{Position}
use Rattle.pf_geom.specs.Bounds.{Bounds}
use Rattle.pf_geom.specs.Octant.{Octant, IsCell, cell_at, ancestor_at}
use Rattle.pf_geom.specs.CellLaws.{CellsOfAPositionNest}
use Rattle.pf_model.specs.declared.entry.Entry.{Entry}
use Rattle.pf_model.specs.declared.entry.Entry.TheVariants.{Cell, One}
use Rattle.pf_model.specs.Particle.{Particle}
use Rattle.pf_model.specs.Particles.{AreBodies}
use Rattle.pf_model.specs.Criterion.{Criterion, Passes}
use Rattle.pf_model.specs.Division.{Division}
use Rattle.pf_model.specs.Totals.{Totals}
use Rattle.pf_model.specs.Domains.{particles_of, domain_box}
use Rattle.pf_model.specs.Interaction.{level_of, entry_of, list_of}
use Rattle.model_laws.specs.ListLaws.{ListsHoldTheirEntries, ListsHoldFirstCells, IsFirstCell}
use Rattle.model_laws.specs.ParticleLaws.{SomeHaveDistinctIds}
use Rattle.pf_model.specs.Sufficiency.{lies_in}
use Rattle.pf_model.specs.EssentialTree.{Essential, essential_tree}
use Rattle.group_lists.specs.Gathering.{IsSentTo}
use Rattle.group_lists.specs.Keyed.{IsServed, item_position}
use Rattle.group_lists.specs.Indexed.{stands_in}
use Rattle.group_lists.specs.PieceLaws.{ItemsLieByPlace}
use Rattle.group_lists.proofs.CellLemmas.{NonePassesBelow}
use Rattle.group_lists.proofs.PositionLemmas.{PositionLaws, AreNested, item_shares_from}
use Rattle.group_lists.proofs.OccupiedLemmas.{same_octant, octant_same, served_tree, same_from_both, IsCellEntry, cell_entry}
use Rattle.group_lists.proofs.ItemLemmas.{lies_here, place_here}

pub record PlaceLaws : Type 0 where
  pub positions : PositionLaws
  pub nest : CellsOfAPositionNest
  pub entries : ListsHoldTheirEntries
  pub first_cells : ListsHoldFirstCells
  pub some : SomeHaveDistinctIds

module _ (laws : PlaceLaws) (t : Criterion) (g : Division) (js : List Particle) (tree : Essential) (box : Bounds) (bodies : AreBodies js) (served : IsServed g js tree.dst box) (sent : IsSentTo t g js tree.dst tree) where
  abbrev domain : Bounds
  domain = domain_box g js tree.dst

  abbrev mine : List Particle
  mine = particles_of g js tree.src

  nested : AreNested box domain
  nested = record { inner_is = served.inner; outer_is = served.outer; within = served.within }

  -- the particle of an item
  item_of : (f : Entry) → Contains tree.items f → (j : Particle) × (f ≡ entry_of t domain mine j)
  item_of f there =
      let whole = served_tree t g js tree.src tree.dst served.some in
      let listed = subst (λ (es : List Entry). Contains es f) whole (Contains-permutation tree.items (essential_tree t g js tree.src tree.dst) f (IsPermutation-sym _ tree.items sent.items) there) in
      let from = ((laws.entries t domain mine (list_of t domain mine) (laws.some _ js bodies.distinct)).1 refl).sound f listed in
      (from.0, from.2)

  -- no cell above a first cell passes
  none_above : (c : Octant) → IsCell c → IsFirstCell t box c → (p : Position) → cell_at p c.level ≡ c → NonePassesBelow t box p c.level
  none_above c is first p at lower less passes =
      let deep = is.level_fits in
      let up : ancestor_at c lower ≡ cell_at p lower = ap (λ (o : Octant). ancestor_at o lower) (sym at) ∙ laws.nest p lower c.level (omega arith) deep in
      first.lowest lower less (subst (λ (o : Octant). Passes box o t) (sym up) passes)

  -- an item lies in a first cell exactly where it has its place there
  lies_by_place : (c : Octant) (m : Totals) → IsCell c → IsFirstCell t box c → (j : Particle) → lies_in (entry_of t domain mine j) (Cell c m) ≡ stands_in (entry_of t domain mine j) (Cell c m)
  lies_by_place c m is first j =
      let f = entry_of t domain mine j in
      same_from_both (lies_in f (Cell c m)) (stands_in f (Cell c m))
      (λ lies. octant_same c (cell_at (item_position f) c.level) (place_here laws.positions laws.nest t box domain nested mine j (level_of t domain j.at) refl c m lies))
      (λ stands.
      let at : cell_at (item_position f) c.level ≡ c = same_octant c (cell_at (item_position f) c.level) stands in
      let shared = item_shares_from laws.positions t box domain nested mine j c.level (none_above c is first (item_position f) at) in
      let there : cell_at j.at c.level ≡ c = sym shared ∙ at in
      lies_here laws.positions laws.nest t box domain nested mine j (level_of t domain j.at) refl c.level c m (none_above c is first j.at there) refl there)

  cell_is : (c : Octant) (m : Totals) → Contains (list_of t box js) (Cell c m) → IsCell c
  cell_is c m there =
      let from = ((laws.entries t box js (list_of t box js) bodies.distinct).1 refl).sound (Cell c m) there in
      subst IsCellEntry (sym from.2) (cell_entry laws.positions t box js from.0 (level_of t box from.0.at) refl)

  fits : (e : Entry) → Contains (list_of t box js) e → (f : Entry) → Contains tree.items f → lies_in f e ≡ stands_in f e
  fits (One p) there f in_tree = refl
  fits (Cell c m) there f in_tree =
      let is = cell_is c m there in
      let first = ((laws.first_cells t box js c m bodies.distinct is).0 there).0 in
      let from = item_of f in_tree in
      subst (λ (e : Entry). lies_in e (Cell c m) ≡ stands_in e (Cell c m)) (sym from.1) (lies_by_place c m is first from.0)

pub items_lie_by_place : PlaceLaws → ItemsLieByPlace
items_lie_by_place laws t g js tree box bodies served sent e there f in_tree = fits laws t g js tree box bodies served sent e there f in_tree
