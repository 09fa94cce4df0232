-- What shifts give: a product by a power of two, and the quotient by one.
use Rattle.std.proofs.Common.{◌≡◌, ◌<◌, ◌≤◌, ℕ, ◌-◌, ◌*◌, ◌/◌, ◌%◌, ◌^◌, ℤ, pos, ◌*ℤ◌, int_div, FitsSigned, w64, to_z, of_z, ap, ◌∙◌, lit<, arith}
use Rattle.std.specs.Int.{w128, int_wrap}
use Rattle.std.proofs.Math.Pow.{pow_mono}
use Rattle.std.proofs.Math.Facts.{Fits-of_z}
use Rattle.std.proofs.lemmas.Bool.{cond-true, cond-false, le-leb, lt-leb}
use Rattle.std.proofs.lemmas.Nat.{pow_below, pow_pos, div_below}
use Rattle.std.proofs.lemmas.Int.{to_z-of_z, to_z_pos, wrapping_mul-bits, int_wrap_fits, fits_signed_mul}
use Rattle.pf_num.specs.Scale.{rescaled}
use Rattle.pf_num.proofs.ExactLemmas.{exact-fits}
use Rattle.pf_num.proofs.WideLemmas.{abs_le, fits_wide}

pub rescaled-up : (x : ℤ) (from to : ℕ) → from ≤ to → rescaled x from to ≡ x *ℤ pos (2 ^ (to - from))
unfolding rescaled
rescaled-up x from to h = cond-true _ _ _ (le-leb from to h)

pub rescaled-down : (x : ℤ) (from to : ℕ) → to < from → rescaled x from to ≡ int_div x (pos (2 ^ (from - to)))
unfolding rescaled
rescaled-down x from to h = cond-false _ _ _ (lt-leb from to h)

shl_fits : (x : ℤ) (k : ℕ) → FitsSigned w64 x → k ≤ 62 → FitsSigned w128 (x *ℤ pos (2 ^ k))
shl_fits x k f h = fits_signed_mul w128 x (pos (2 ^ k)) (2 ^ 63) (2 ^ 62) (abs_le x f) (pow_mono h) (lit< tt)

-- the bits of `x << k` in 128 bits, where x has 64
pub shl_is_product : (x : ℤ) (k : ℕ) → FitsSigned w64 x → k ≤ 62 → to_z w128 ((of_z w128 x * 2 ^ k) % 2 ^ 128) ≡ x *ℤ pos (2 ^ k)
shl_is_product x k f h =
    let small : 2 ^ k < 2 ^ 127 = pow_below k 127 (omega arith) in
    let bits : 2 ^ k < 2 ^ 128 = omega arith in
    let g = fits_wide x f in
    wrapping_mul-bits w128 (of_z w128 x) (2 ^ k) (Fits-of_z {w = w128} {z = x} g).fits bits
    ∙ ap (int_wrap w128) (ap (λ y. y *ℤ to_z w128 (2 ^ k)) (to_z-of_z w128 x g) ∙ ap (λ y. x *ℤ y) (to_z_pos w128 (2 ^ k) small))
    ∙ int_wrap_fits w128 (x *ℤ pos (2 ^ k)) (shl_fits x k f h)

shr_fits : (n k : ℕ) → n ≤ 2 ^ 63 → 0 < k → n / 2 ^ k < 2 ^ 63
shr_fits n k h p =
    let two : 2 ^ 1 ≤ 2 ^ k = pow_mono p in
    div_below n (2 ^ k) (2 ^ 63) (pow_pos k) (omega arith)

pub size_fits : (n k : ℕ) → n ≤ 2 ^ 63 → 0 < k → FitsSigned w64 (pos (n / 2 ^ k))
size_fits n k h p = record { sfits = shr_fits n k h p }

pub ruleset scales = (to_z-of_z, exact-fits, rescaled-up, rescaled-down, shl_is_product, size_fits)
