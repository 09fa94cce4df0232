-- Places in the cube of side 2^30.
use Rattle.std.specs.Prelude.{ℕ, ◌<◌, ◌≤◌, ◌^◌}
use Rattle.pf_geom.specs.declared.axis.Axis.{Axis}
use Rattle.pf_geom.specs.declared.axis.Axis.TheVariants.{X, Y, Z}

-- a point as clauses see it: three whole coordinates
pub record Position : Type 0 where
  pub x : ℕ
  pub y : ℕ
  pub z : ℕ

-- the coordinate of a position along an axis
abbrev pub along : Axis → Position → ℕ
along X p = p.x
along Y p = p.y
along Z p = p.z

-- each coordinate lies in the cube
pub record IsInCube (x y z : ℕ) : Type 0 where
  pub x_fits : x < 2 ^ 30
  pub y_fits : y < 2 ^ 30
  pub z_fits : z < 2 ^ 30

-- a position that a point can have
abbrev pub IsPosition : Position → Type 0
IsPosition p = IsInCube p.x p.y p.z

-- p is at most q on each axis
pub record IsAtMost (p q : Position) : Type 0 where
  pub x_at_most : p.x ≤ q.x
  pub y_at_most : p.y ≤ q.y
  pub z_at_most : p.z ≤ q.z
