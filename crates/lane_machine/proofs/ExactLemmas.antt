-- A number of 128 bits is the answer exactly where it fits an i64 in std's sense.
use Rattle.std.proofs.Common.{◌≡◌, true, ℤ, pos, negsuc, FitsSigned, w64, Result, Ok, Err, OkIff, sym, ap, ◌∙◌, arith}
use Rattle.std.specs.Result.{result_or}
use Rattle.std.proofs.lemmas.Bool.Decides.{nat_tests}
use Rattle.std.proofs.lemmas.Bool.{cond-true, cond-false, false_from_ne_true}
use Rattle.std.proofs.lemmas.Int.{to_z-of_z}
use Rattle.pf_num.specs.Exact.{exact, is_i64}
use Rattle.pf_num.specs.declared.fault.NumFault.TheVariants.{Overflow}

is_i64-true : (z : ℤ) → FitsSigned w64 z → is_i64 z ≡ true
is_i64-true (pos n) h = grind (arith, nat_tests, h.sfits)
is_i64-true (negsuc n) h = grind (arith, nat_tests, h.sfits)

fits_from_is_i64 : (z : ℤ) → is_i64 z ≡ true → FitsSigned w64 z
fits_from_is_i64 (pos n) e = record { sfits = grind (arith, nat_tests) }
fits_from_is_i64 (negsuc n) e = record { sfits = grind (arith, nat_tests) }

exact-fits : (z : ℤ) → FitsSigned w64 z → exact z ≡ Ok z
unfolding exact
exact-fits z h = cond-true (is_i64 z) (Ok z) (Err Overflow) (is_i64-true z h)

exact-overflows : (z : ℤ) → ¬ FitsSigned w64 z → exact z ≡ Err Overflow
unfolding exact
exact-overflows z h = cond-false (is_i64 z) (Ok z) (Err Overflow) (false_from_ne_true (is_i64 z) (λ e. h (fits_from_is_i64 z e)))

pub exact-from_ok : {E : Type 0} (r : Result ℤ E) (z : ℤ) → OkIff r (FitsSigned w64 z) z → result_or r (Err Overflow) ≡ exact z
exact-from_ok (Ok x) z h = ap Ok h.1 ∙ sym (exact-fits z h.0)
exact-from_ok (Err e) z h = sym (exact-overflows z h)

pub ruleset narrow_answers = (exact-from_ok, to_z-of_z)
