-- Exact whole numbers as answers in 64 bits.
use Rattle.std.specs.Prelude.{◌^◌, ℤ, pos, neg_ℤ, int_le, int_lt, Bool, ◌&&◌, if◌then◌else◌, Result, Ok, Err}
use Rattle.pf_num.specs.declared.fault.NumFault.{NumFault}
use Rattle.pf_num.specs.declared.fault.NumFault.TheVariants.{Overflow}

-- z lies between the least and the greatest i64
abbrev pub is_i64 : ℤ → Bool
is_i64 z = int_le (neg_ℤ (pos (2 ^ 63))) z && int_lt z (pos (2 ^ 63))

-- the answer of an operation with this exact value: the value, or Overflow where it isn't an i64
unfoldable pub exact : ℤ → Result ℤ NumFault
exact z = if is_i64 z then Ok z else Err Overflow
