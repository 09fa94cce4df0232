-- The opening test, after the criterion of Barnes and Hut.
use Rattle.std.specs.Prelude.{ℕ, ◌*◌, ◌≤◌}
use Rattle.pf_geom.specs.declared.edge.Edge.{Edge}
use Rattle.pf_geom.specs.Bounds.{Bounds}
use Rattle.pf_geom.specs.Octant.{Octant, side_at}
use Rattle.pf_geom.specs.Gap.{square, gap2_to}

-- the opening angle a/b, and what lies past the edge of the cube
pub record Criterion : Type 0 where
  pub a : ℕ
  pub b : ℕ
  pub edge : Edge

-- an opening angle: the fraction of two numbers of at most 1024
pub record IsAngle (a b : ℕ) : Type 0 where
  pub numerator_fits : a ≤ 1024
  pub denominator_positive : 1 ≤ b
  pub denominator_fits : b ≤ 1024

-- a criterion that a `Theta` can be
abbrev pub IsCriterion : Criterion → Type 0
IsCriterion t = IsAngle t.a t.b

-- seen from the box, the cell's side is at most a/b of the gap: both are squared, and multiplied out
abbrev pub Passes : Bounds → Octant → Criterion → Type 0
Passes box c t = square (side_at c.level) * square t.b ≤ gap2_to t.edge box c * square t.a
