-- Std's quotient drops its fraction, and it is the answer where the divisor isn't 0.
use Rattle.std.proofs.Common.{◌≡◌, ◌<◌, ◌≤◌, ℕ, zero, suc, ◌*◌, ◌/◌, ◌^◌, false, ℤ, pos, negsuc, neg_ℤ, ◌-ℤ◌, ◌*ℤ◌, int_div, int_rem, unsigned_abs, FitsSigned, w64, of_z, Option, Some, None, SomeIff, ok_or, Result, Err, Ok, IfOk, refl, sym, ap, ◌∙◌, subst, arith}
use Rattle.std.specs.Int.{CanDivide, w128}
use Rattle.std.specs.Ordering.{int_eq}
use Rattle.std.proofs.Math.Nat.{div-mul-le_self, div-le_self}
use Rattle.std.proofs.lemmas.Bool.{cond-true, cond-false, cond_both, both_ways, false_from_ne_true}
use Rattle.std.proofs.lemmas.Bool.Decides.{Decides-int_eq}
use Rattle.std.proofs.lemmas.Int.{ints, to_z-of_z, quot-rem, rem_below, unsigned_abs-mul, fits_signed_from_abs}
use Rattle.std.proofs.lemmas.Nat.{mul-le}
use Rattle.pf_num.specs.Exact.{exact, is_i64}
use Rattle.pf_num.specs.Quotient.{exact_quotient, IsTruncatedQuotient}
use Rattle.pf_num.specs.declared.fault.NumFault.{NumFault}
use Rattle.pf_num.specs.declared.fault.NumFault.TheVariants.{Overflow, ZeroDivisor}
use Rattle.pf_num.proofs.ExactLemmas.{exact-from_some}
use Rattle.pf_num.proofs.WideLemmas.{abs_le, fits_wide, product_fits}

-- the bits of an i64 are 0 exactly where it is 0
zero_from_bits : (z : ℤ) → FitsSigned w64 z → of_z w64 z ≡ 0 → z ≡ pos 0
zero_from_bits (pos n) f h = ap pos h
zero_from_bits (negsuc n) f h = let p : n < 2 ^ 63 = f.sfits in absurd (omega arith)

nonzero_from_bits : (z : ℤ) → (of_z w64 z ≡ 0 → ⊥) → z ≡ pos 0 → ⊥
nonzero_from_bits z h e = h (ap (of_z w64) e)

pub exact_quotient-zero : (a b : ℤ) → FitsSigned w64 b → of_z w64 b ≡ 0 → Err ZeroDivisor ≡ exact_quotient a b
unfolding exact_quotient
exact_quotient-zero a b f h = sym (cond-true _ _ _ ((Decides-int_eq b (pos 0)).1 (zero_from_bits b f h)))

pub exact_quotient-nonzero : (a b : ℤ) → (of_z w64 b ≡ 0 → ⊥) → exact (int_div a b) ≡ exact_quotient a b
unfolding exact_quotient
exact_quotient-nonzero a b h =
    sym (cond-false _ _ _ (false_from_ne_true _ (λ e. nonzero_from_bits b h ((Decides-int_eq b (pos 0)).0 e))))

pub exact_quotient-from_some : (o : Option ℤ) (a b : ℤ) → (of_z w64 b ≡ 0 → ⊥) → SomeIff o (CanDivide w64 a b) (int_div a b) → ok_or o Overflow ≡ exact_quotient a b
exact_quotient-from_some o a b h s = exact-from_some o (int_div a b) (fits o s) ∙ exact_quotient-nonzero a b h
  where
    fits : (p : Option ℤ) → SomeIff p (CanDivide w64 a b) (int_div a b) → SomeIff p (FitsSigned w64 (int_div a b)) (int_div a b)
    fits None k = λ f. k (omega arith, f)
    fits (Some x) k = (k.0.1, k.1)

unsigned_abs-neg : (n : ℕ) → unsigned_abs (neg_ℤ (pos n)) ≡ n
unsigned_abs-neg zero = refl
unsigned_abs-neg (suc n) = refl

unsigned_abs-int_div : (a b : ℤ) → unsigned_abs (int_div a b) ≡ unsigned_abs a / unsigned_abs b
unsigned_abs-int_div (pos a) (pos b) = refl
unsigned_abs-int_div (pos a) (negsuc b) = unsigned_abs-neg (a / suc b)
unsigned_abs-int_div (negsuc a) (pos b) = unsigned_abs-neg (suc a / b)
unsigned_abs-int_div (negsuc a) (negsuc b) = refl

int_div_truncates : (a b : ℤ) → 0 < unsigned_abs b → IsTruncatedQuotient a b (int_div a b)
int_div_truncates a b h =
    let split = quot-rem a b in
    let rest : a -ℤ int_div a b *ℤ b ≡ int_rem a b = omega (arith, ints) in
    record {
      no_further = rw (unsigned_abs-mul, unsigned_abs-int_div) (div-mul-le_self (unsigned_abs a) (unsigned_abs b));
      near_a = rw rest (rem_below a b h);
    }

abs_positive : (z : ℤ) → (z ≡ pos 0 → ⊥) → 0 < unsigned_abs z
abs_positive (pos zero) h = absurd (h refl)
abs_positive (pos (suc n)) h = omega arith
abs_positive (negsuc n) h = omega arith

pub exact_quotient-truncates : (a b : ℤ) (r : Result ℤ NumFault) → r ≡ exact_quotient a b → IfOk r (IsTruncatedQuotient a b)
unfolding exact_quotient exact
exact_quotient-truncates a b r e =
    let q = int_div a b in
    let P : Result ℤ NumFault → Type 0 = λ s. IfOk s (IsTruncatedQuotient a b) in
    let nonzero : int_eq b (pos 0) ≡ false → 0 < unsigned_abs b = λ f. abs_positive b (λ z. both_ways _ f ((Decides-int_eq b (pos 0)).1 z)) in
    subst P (sym e)
    (cond_both (int_eq b (pos 0)) (Err ZeroDivisor) (exact q) P (λ _. tt)
    (λ f. cond_both (is_i64 q) (Ok q) (Err Overflow) P (λ _. int_div_truncates a b (nonzero f)) (λ _. tt)))

pub bits_positive : (z : ℤ) → (of_z w64 z ≡ 0 → ⊥) → 0 < of_z w128 z
bits_positive (pos n) h = omega arith
bits_positive (negsuc n) h = omega arith

pub quotient_fits : (a b c : ℤ) → FitsSigned w64 a → FitsSigned w64 b → FitsSigned w128 (int_div (a *ℤ b) c)
quotient_fits a b c f g =
    let size : unsigned_abs (int_div (a *ℤ b) c) ≡ unsigned_abs a * unsigned_abs b / unsigned_abs c =
    unsigned_abs-int_div (a *ℤ b) c ∙ ap (λ n. n / unsigned_abs c) (unsigned_abs-mul a b)
    in
    let product : unsigned_abs a * unsigned_abs b ≤ 2 ^ 126 = mul-le _ _ (2 ^ 63) (2 ^ 63) (abs_le a f) (abs_le b g) in
    let small : unsigned_abs a * unsigned_abs b / unsigned_abs c ≤ unsigned_abs a * unsigned_abs b = div-le_self _ _ in
    fits_signed_from_abs w128 _ (omega arith)

pub ruleset narrow_quotients = (to_z-of_z, exact_quotient-zero, exact_quotient-from_some, exact_quotient-truncates)

pub ruleset wide_quotients = (to_z-of_z, fits_wide, product_fits, quotient_fits, bits_positive, exact_quotient-zero, exact_quotient-nonzero)
