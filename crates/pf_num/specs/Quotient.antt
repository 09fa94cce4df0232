-- Quotients that drop their fraction, and so round toward zero.
use Rattle.std.specs.Prelude.{◌≤◌, ◌<◌, ℤ, pos, ◌-ℤ◌, ◌*ℤ◌, unsigned_abs, int_div, Result, Err, if◌then◌else◌}
use Rattle.std.specs.Ordering.{int_eq}
use Rattle.pf_num.specs.Exact.{exact}
use Rattle.pf_num.specs.declared.fault.NumFault.{NumFault}
use Rattle.pf_num.specs.declared.fault.NumFault.TheVariants.{ZeroDivisor}

-- q is a / b without its fraction: q * b is no further from 0 than a is, and less than b away from a
pub record IsTruncatedQuotient (a b q : ℤ) : Type 0 where
  pub no_further : unsigned_abs (q *ℤ b) ≤ unsigned_abs a
  pub near_a : unsigned_abs (a -ℤ q *ℤ b) < unsigned_abs b

-- the answer of a division: ZeroDivisor, or the quotient without its fraction where it is an i64
unfoldable pub exact_quotient : ℤ → ℤ → Result ℤ NumFault
exact_quotient a b = if int_eq b (pos 0) then Err ZeroDivisor else exact (int_div a b)
