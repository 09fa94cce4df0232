-- Where the items of an essential tree stand, seen from a box inside the one that they were made for.
use Rattle.std.proofs.Common.{◌≡◌, ℕ, ◌≤◌, Option, Some, None, List, inl, inr, refl, sym, ◌∙◌, ap, subst}
use Rattle.std.proofs.lemmas.Bool.{cases_lt}
use Rattle.pf_geom.specs.Bounds.{Bounds, IsBox, IsWithin}
use Rattle.pf_geom.specs.Octant.{Octant, IsCell, cell_at, corner_of}
use Rattle.pf_geom.specs.CellLaws.{PositionsHaveCells, PositionsShareLowerCells, CornersLieInside}
use Rattle.pf_model.specs.Particle.{Particle}
use Rattle.pf_model.specs.Criterion.{Criterion, Passes}
use Rattle.pf_model.specs.Interaction.{level_of, entry_at, entry_of}
use Rattle.model_laws.specs.OpeningLaws.{CellsPassForBoxesInside}
use Rattle.model_laws.specs.ListLaws.{LevelsAreLeast}
use Rattle.group_lists.specs.Keyed.{item_position}
use Rattle.group_lists.proofs.CellLemmas.{NonePassesBelow, first_shared}

-- what this rests on
pub record PositionLaws : Type 0 where
  pub inside : CellsPassForBoxesInside
  pub corners : CornersLieInside
  pub share : PositionsShareLowerCells
  pub cells : PositionsHaveCells
  pub levels : LevelsAreLeast

-- one box inside another
pub record AreNested (inner outer : Bounds) : Type 0 where
  pub inner_is : IsBox inner
  pub outer_is : IsBox outer
  pub within : IsWithin inner outer

module _ (laws : PositionLaws) (t : Criterion) (inner outer : Bounds) (nested : AreNested inner outer) (js : List Particle) (j : Particle) where
  -- the cell of an item passes for the inner box
  pub passes_inner : (deep : ℕ) → level_of t outer j.at ≡ Some deep → Passes inner (cell_at j.at deep) t
  passes_inner deep e =
      let first = ((laws.levels t outer j.at).1 deep).0 e in
      let is : IsCell (cell_at j.at deep) = laws.cells j.at deep first.within in
      laws.inside t inner outer (cell_at j.at deep) nested.inner_is nested.outer_is nested.within is first.passes

  pub is_deep : (deep : ℕ) → level_of t outer j.at ≡ Some deep → deep ≤ 30
  is_deep deep e = (((laws.levels t outer j.at).1 deep).0 e).within

  -- its corner is in it
  pub corner_in : (deep : ℕ) → level_of t outer j.at ≡ Some deep → cell_at (corner_of (cell_at j.at deep)) deep ≡ cell_at j.at deep
  corner_in deep e = (laws.corners (cell_at j.at deep) (laws.cells j.at deep (is_deep deep e))).1.in_cell

  -- as long as no cell above passes for the inner box, the item stands in the particle's cell
  shares_at : (o : Option ℕ) → level_of t outer j.at ≡ o → (level : ℕ) → NonePassesBelow t inner j.at level → cell_at (item_position (entry_at t outer js j o)) level ≡ cell_at j.at level
  shares_at None e level lowest = refl
  shares_at (Some deep) e level lowest =
      elim (cases_lt deep level) [
        | inl less ↦ absurd (lowest deep less (passes_inner deep e))
        | inr more ↦ laws.share (corner_of (cell_at j.at deep)) j.at level deep more (is_deep deep e) (corner_in deep e)
      ]

  shares_from : (o : Option ℕ) → level_of t outer j.at ≡ o → (level : ℕ) → NonePassesBelow t inner (item_position (entry_at t outer js j o)) level → cell_at (item_position (entry_at t outer js j o)) level ≡ cell_at j.at level
  shares_from None e level lowest = refl
  shares_from (Some deep) e level lowest =
      elim (cases_lt deep level) [
        | inl less ↦ absurd (lowest deep less (subst (λ (c : Octant). Passes inner c t) (sym (corner_in deep e)) (passes_inner deep e)))
        | inr more ↦ laws.share (corner_of (cell_at j.at deep)) j.at level deep more (is_deep deep e) (corner_in deep e)
      ]

  pub item_shares_at : (level : ℕ) → NonePassesBelow t inner j.at level → cell_at (item_position (entry_of t outer js j)) level ≡ cell_at j.at level
  item_shares_at = shares_at (level_of t outer j.at) refl

  pub item_shares_from : (level : ℕ) → NonePassesBelow t inner (item_position (entry_of t outer js j)) level → cell_at (item_position (entry_of t outer js j)) level ≡ cell_at j.at level
  item_shares_from = shares_from (level_of t outer j.at) refl

  -- the level of the item's place is that of the particle
  level_some : (level : ℕ) → level_of t inner j.at ≡ Some level → level_of t inner (item_position (entry_of t outer js j)) ≡ Some level
  level_some level e =
      let first = ((laws.levels t inner j.at).1 level).0 e in
      ((laws.levels t inner (item_position (entry_of t outer js j))).1 level).1 (first_shared laws.share t inner j.at (item_position (entry_of t outer js j)) level first (item_shares_at level first.lowest))

  level_none : (o : Option ℕ) → level_of t outer j.at ≡ o → level_of t inner j.at ≡ None → level_of t inner (item_position (entry_at t outer js j o)) ≡ None
  level_none None e none = none
  level_none (Some deep) e none = absurd ((laws.levels t inner j.at).0.0 none deep (is_deep deep e) (passes_inner deep e))

  level_either : (o : Option ℕ) → level_of t inner j.at ≡ o → level_of t inner (item_position (entry_of t outer js j)) ≡ o
  level_either None e = level_none (level_of t outer j.at) refl e
  level_either (Some level) e = level_some level e

  pub item_level : level_of t inner (item_position (entry_of t outer js j)) ≡ level_of t inner j.at
  item_level = level_either (level_of t inner j.at) refl

  -- an item at whose place no cell passes for the inner box is the particle
  only_itself : (o : Option ℕ) → level_of t outer j.at ≡ o → level_of t inner j.at ≡ None → entry_at t outer js j o ≡ entry_at t inner js j None
  only_itself None e none = refl
  only_itself (Some deep) e none = absurd ((laws.levels t inner j.at).0.0 none deep (is_deep deep e) (passes_inner deep e))

  pub item_is_near : level_of t inner j.at ≡ None → entry_of t outer js j ≡ entry_of t inner js j
  item_is_near none = only_itself (level_of t outer j.at) refl none ∙ ap (entry_at t inner js j) (sym none)
