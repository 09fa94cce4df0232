-- What pairs have contributed so far to a FORCE variable.
use Rattle.std.specs.Prelude.{◌≤◌, ◌+◌, ◌*◌, ◌-◌, ◌^◌, ℕ, ℤ, pos, neg_ℤ, ◌+ℤ◌, unsigned_abs, List, slice_index_or}
use Rattle.std.specs.Int.{int_min, int_max}
use Rattle.kern_tree.specs.declared.kernel.Combine.{Combine}
use Rattle.kern_tree.specs.declared.kernel.Combine.TheVariants.{Sum, Max, Min}

-- along x, y and z, and how many contributions they are
pub record Tallied : Type 0 where
  pub count : ℕ
  pub x : ℤ
  pub y : ℤ
  pub z : ℤ

-- so many numbers of 64 bits, together with what stands for none of them, are no more than this
abbrev pub IsOfFew : ℕ → ℤ → Type 0
IsOfFew count total = unsigned_abs total ≤ (count + 1) * 2 ^ 63

-- what each tally keeps
pub record IsTally (count : ℕ) (x y z : ℤ) : Type 0 where
  pub x_few : IsOfFew count x
  pub y_few : IsOfFew count y
  pub z_few : IsOfFew count z

-- two numbers combined
abbrev pub joined : Combine → ℤ → ℤ → ℤ
joined Sum total number = total +ℤ number
joined Max total number = int_max total number
joined Min total number = int_min total number

-- what stands for no number
abbrev pub of_none : Combine → ℤ
of_none Sum = pos 0
of_none Max = neg_ℤ (pos (2 ^ 63))
of_none Min = pos (2 ^ 63 - 1)

-- no contribution yet
abbrev pub nothing : Combine → Tallied
nothing combine = record { count = 0; x = of_none combine; y = of_none combine; z = of_none combine }

-- one more contribution, by its numbers along x, y and z
abbrev pub with_numbers : Combine → Tallied → List ℤ → Tallied
with_numbers combine t numbers = record {
  count = t.count + 1;
  x = joined combine t.x (slice_index_or numbers 0 (pos 0));
  y = joined combine t.y (slice_index_or numbers 1 (pos 0));
  z = joined combine t.z (slice_index_or numbers 2 (pos 0));
}
