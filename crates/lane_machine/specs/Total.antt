-- What has been added up of a FORCE variable.
use Rattle.std.specs.Prelude.{◌≤◌, ◌+◌, ◌*◌, ◌-◌, ◌^◌, ℕ, ℤ, pos, neg_ℤ, ◌+ℤ◌, unsigned_abs}
use Rattle.std.specs.Int.{int_min, int_max}
use Rattle.pf_geom.specs.declared.axis.Axis.{Axis}
use Rattle.pf_geom.specs.declared.axis.Axis.TheVariants.{X, Y, Z}
use Rattle.kern_tree.specs.declared.kernel.Combine.{Combine}
use Rattle.kern_tree.specs.declared.kernel.Combine.TheVariants.{Sum, Max, Min}

-- how contributions are combined, and what those so far come to along x, y and z
pub record Summed : Type 0 where
  pub combine : Combine
  pub x : ℤ
  pub y : ℤ
  pub z : ℤ

-- two numbers combined
abbrev pub joined : Combine → ℤ → ℤ → ℤ
joined Sum total number = total +ℤ number
joined Max total number = int_max total number
joined Min total number = int_min total number

-- what stands for no number
abbrev pub of_none : Combine → ℤ
of_none Sum = pos 0
of_none Max = neg_ℤ (pos (2 ^ 63))
of_none Min = pos (2 ^ 63 - 1)

-- no contribution yet
abbrev pub nothing : Combine → Summed
nothing combine = record { combine = combine; x = of_none combine; y = of_none combine; z = of_none combine }

-- what contributions come to along an axis
abbrev pub along : Axis → Summed → ℤ
along X t = t.x
along Y t = t.y
along Z t = t.z

abbrev pub with_along : Axis → Summed → ℤ → Summed
with_along X t number = record { combine = t.combine; x = number; y = t.y; z = t.z }
with_along Y t number = record { combine = t.combine; x = t.x; y = number; z = t.z }
with_along Z t number = record { combine = t.combine; x = t.x; y = t.y; z = number }

-- so many numbers of 64 bits, together with what stands for none of them, are no more than this
abbrev pub IsOfFew : ℕ → ℤ → Type 0
IsOfFew count total = unsigned_abs total ≤ (count + 1) * 2 ^ 63

-- along each axis
pub record AreFew (count : ℕ) (t : Summed) : Type 0 where
  pub x_few : IsOfFew count t.x
  pub y_few : IsOfFew count t.y
  pub z_few : IsOfFew count t.z
