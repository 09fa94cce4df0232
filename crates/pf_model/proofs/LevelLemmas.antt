-- The level of a position, as the least that passes a test.
use Rattle.std.proofs.Common.{◌≡◌, ℕ, Bool, true, Option}
use Rattle.std.proofs.lemmas.Bool.{le-leb}
use Rattle.pf_geom.specs.Position.{Position}
use Rattle.pf_geom.specs.Bounds.{Bounds}
use Rattle.pf_geom.specs.Octant.{Octant, cell_at}
use Rattle.pf_model.specs.Criterion.{Criterion, Passes}
use Rattle.pf_model.specs.Interaction.{passes, level_of}
use Rattle.order_laws.specs.OrderLaws.{IsLeast}
use Rattle.order_laws.proofs.LeastLemmas.{least_below-from_IsLeast}

pub test-from_Passes : (box : Bounds) (c : Octant) (t : Criterion) → Passes box c t → passes box c t ≡ true
test-from_Passes box c t h = le-leb _ _ h

-- whether the position's cell passes at a level
abbrev pub passes_at : Criterion → Bounds → Position → ℕ → Bool
passes_at t box p = λ level. passes box (cell_at p level) t

pub level_from_least : (t : Criterion) (box : Bounds) (p : Position) (o : Option ℕ) → IsLeast (passes_at t box p) 31 o → level_of t box p ≡ o
unfolding level_of
level_from_least t box p o h = least_below-from_IsLeast (passes_at t box p) 31 o h
