-- What 128 bits hold: each i64, and the product of two.
use Rattle.std.proofs.Common.{◌<◌, ◌≤◌, ◌^◌, ℤ, pos, negsuc, ◌+ℤ◌, ◌*ℤ◌, unsigned_abs, FitsSigned, w64, lit<, arith}
use Rattle.std.specs.Int.{w128}
use Rattle.std.specs.Int.Signed.{mag}
use Rattle.std.proofs.lemmas.Int.{ints, fits_signed_mul}

pub abs_le : (x : ℤ) → FitsSigned w64 x → unsigned_abs x ≤ 2 ^ 63
abs_le (pos n) h = let p : n < 2 ^ 63 = h.sfits in omega arith
abs_le (negsuc n) h = let p : n < 2 ^ 63 = h.sfits in omega arith

pub fits_wide : (x : ℤ) → FitsSigned w64 x → FitsSigned w128 x
fits_wide x f = record { sfits = let p : mag x < 2 ^ 63 = f.sfits in omega arith }

pub product_fits : (x y : ℤ) → FitsSigned w64 x → FitsSigned w64 y → FitsSigned w128 (x *ℤ y)
product_fits x y f g = fits_signed_mul w128 x y (2 ^ 63) (2 ^ 63) (abs_le x f) (abs_le y g) (lit< tt)

pub sum_of_two_fits : (x y : ℤ) → FitsSigned w64 x → FitsSigned w64 y → FitsSigned w128 (x +ℤ y)
sum_of_two_fits x y f g = omega (arith, ints)

pub sum_of_three_fits : (x y z : ℤ) → FitsSigned w64 x → FitsSigned w64 y → FitsSigned w64 z → FitsSigned w128 (x +ℤ y +ℤ z)
sum_of_three_fits x y z f g h = omega (arith, ints)
