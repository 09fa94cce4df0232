-- The exact value is the answer exactly where it fits an i64 in std's sense.
use Rattle.std.proofs.Common.{◌≡◌, ◌<◌, zero, suc, ◌^◌, true, ℤ, pos, negsuc, neg_ℤ, unsigned_abs, FitsSigned, w64, Option, Some, None, Result, Ok, Err, SomeIff, OkIff, ok_or, sym, ap, ◌∙◌, arith}
use Rattle.std.specs.Result.{result_or}
use Rattle.std.proofs.lemmas.Bool.Decides.{nat_tests}
use Rattle.std.proofs.lemmas.Bool.{cond-true, cond-false, false_from_ne_true}
use Rattle.std.proofs.lemmas.Int.{to_z-of_z}
use Rattle.pf_num.specs.Exact.{exact, is_i64}
use Rattle.pf_num.specs.declared.fault.NumFault.TheVariants.{Overflow}

is_i64-true : (z : ℤ) → FitsSigned w64 z → is_i64 z ≡ true
is_i64-true (pos n) h = grind (arith, nat_tests, h.sfits)
is_i64-true (negsuc n) h = grind (arith, nat_tests, h.sfits)

fits_from_is_i64 : (z : ℤ) → is_i64 z ≡ true → FitsSigned w64 z
fits_from_is_i64 (pos n) e = record { sfits = grind (arith, nat_tests) }
fits_from_is_i64 (negsuc n) e = record { sfits = grind (arith, nat_tests) }

pub exact-fits : (z : ℤ) → FitsSigned w64 z → exact z ≡ Ok z
unfolding exact
exact-fits z h = cond-true (is_i64 z) (Ok z) (Err Overflow) (is_i64-true z h)

pub exact-overflows : (z : ℤ) → ¬ FitsSigned w64 z → exact z ≡ Err Overflow
unfolding exact
exact-overflows z h = cond-false (is_i64 z) (Ok z) (Err Overflow) (false_from_ne_true (is_i64 z) (λ e. h (fits_from_is_i64 z e)))

-- the answer from what std's checked operations and conversions give
pub exact-from_some : (o : Option ℤ) (z : ℤ) → SomeIff o (FitsSigned w64 z) z → ok_or o Overflow ≡ exact z
exact-from_some None z h = sym (exact-overflows z h)
exact-from_some (Some x) z h = ap Ok h.1 ∙ sym (exact-fits z h.0)

pub exact-from_ok : {E : Type 0} (r : Result ℤ E) (z : ℤ) → OkIff r (FitsSigned w64 z) z → result_or r (Err Overflow) ≡ exact z
exact-from_ok (Ok x) z h = ap Ok h.1 ∙ sym (exact-fits z h.0)
exact-from_ok (Err e) z h = sym (exact-overflows z h)

-- an i64's magnitude fits exactly where its negation does
abs_fits : (z : ℤ) → FitsSigned w64 z → FitsSigned w64 (neg_ℤ z) → FitsSigned w64 (pos (unsigned_abs z))
abs_fits (pos n) h k = h
abs_fits (negsuc n) h k = k

neg_fits : (z : ℤ) → FitsSigned w64 z → FitsSigned w64 (pos (unsigned_abs z)) → FitsSigned w64 (neg_ℤ z)
neg_fits (pos zero) h k = h
neg_fits (pos (suc n)) h k = record { sfits = let p : suc n < 2 ^ 63 = h.sfits in omega arith }
neg_fits (negsuc n) h k = k

pub exact-from_some_abs : (o : Option ℤ) (z : ℤ) → FitsSigned w64 z → SomeIff o (FitsSigned w64 (neg_ℤ z)) (pos (unsigned_abs z)) → ok_or o Overflow ≡ exact (pos (unsigned_abs z))
exact-from_some_abs None z f h = sym (exact-overflows (pos (unsigned_abs z)) (λ k. h (neg_fits z f k)))
exact-from_some_abs (Some x) z f h = ap Ok h.1 ∙ sym (exact-fits (pos (unsigned_abs z)) (abs_fits z f h.0))

pub ruleset exact_answers = (exact-from_some, exact-from_some_abs, exact-from_ok, to_z-of_z)
