-- Whole numbers that stand for fractions: a number at scale k counts parts of 1 / 2^k.
use Rattle.std.specs.Prelude.{ℕ, ◌-◌, ◌^◌, nat_le, if◌then◌else◌, ℤ, pos, ◌*ℤ◌, int_div}

-- the number of one scale at another: times a power of two, or the quotient by one without its fraction
unfoldable pub rescaled : ℤ → ℕ → ℕ → ℤ
rescaled x from to = if nat_le from to then x *ℤ pos (2 ^ (to - from)) else int_div x (pos (2 ^ (from - to)))
