-- The first passing cell of a position.
use Rattle.std.proofs.Common.{◌≡◌, ℕ, ◌<◌, sym, subst, arith}
use Rattle.pf_geom.specs.Position.{Position}
use Rattle.pf_geom.specs.Bounds.{Bounds}
use Rattle.pf_geom.specs.Octant.{Octant, cell_at}
use Rattle.pf_model.specs.Criterion.{Criterion, Passes}
use Rattle.pf_geom.specs.CellLaws.{PositionsShareLowerCells}
use Rattle.model_laws.specs.ListLaws.{IsFirstPassing}

abbrev pub octant : ℕ → ℕ → Octant
octant level key = record { level = level; key = key }

-- a position in the first passing cell of another has it as its own
pub first_shared : PositionsShareLowerCells → (t : Criterion) (box : Bounds) (p q : Position) (level : ℕ) → IsFirstPassing t box p level → cell_at q level ≡ cell_at p level → IsFirstPassing t box q level
first_shared share t box p q level h same = record {
  within = h.within;
  passes = subst (λ (c : Octant). Passes box c t) (sym same) h.passes;
  lowest = λ lower less passes.
      let shared = share q p lower level (omega arith) h.within same in
      h.lowest lower less (subst (λ (c : Octant). Passes box c t) shared passes);
}

-- no lower cell of the position passes
abbrev pub NonePassesBelow : Criterion → Bounds → Position → ℕ → Type 0
NonePassesBelow t box p level = (lower : ℕ) → lower < level → Passes box (cell_at p lower) t → ⊥
