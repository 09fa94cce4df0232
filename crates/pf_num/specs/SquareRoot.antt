-- Square roots without their fraction.
use Rattle.std.specs.Prelude.{ℕ, zero, suc, ◌+◌, ◌*◌, ◌/◌, ◌≤◌, ◌<◌, nat_le, if◌then◌else◌, ℤ, pos, negsuc, Result, Ok, Err}
use Rattle.pf_num.specs.declared.fault.NumFault.{NumFault}
use Rattle.pf_num.specs.declared.fault.NumFault.TheVariants.{NegativeRoot}

-- r is the root of x without its fraction
pub record IsFloorRoot (x r : ℕ) : Type 0 where
  pub square_le : r * r ≤ x
  pub next_square_gt : x < (r + 1) * (r + 1)

-- r, or one more where the square of that is still at most x
abbrev pub raised_root : ℕ → ℕ → ℕ
raised_root x r = if nat_le ((r + 1) * (r + 1)) x then r + 1 else r

-- the root of x is twice that of its quarter, or one more; x can be quartered at most k times
unfoldable pub root_within : ℕ → ℕ → ℕ
root_within zero x = 0
root_within (suc k) zero = 0
root_within (suc k) (suc n) = raised_root (suc n) (2 * root_within k (suc n / 4))

-- the root of x without its fraction
unfoldable pub floor_root : ℕ → ℕ
floor_root x = root_within x x

-- the answer of a square root: the root without its fraction, or NegativeRoot
unfoldable pub exact_root : ℤ → Result ℤ NumFault
exact_root (pos n) = Ok (pos (floor_root n))
exact_root (negsuc n) = Err NegativeRoot
