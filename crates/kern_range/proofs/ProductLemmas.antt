-- Products that may leave 64 bits, by their factors, and quotients.
use Rattle.std.proofs.Common.{◌≡◌, ◌<◌, ◌≤◌, ◌^◌, ℕ, ℤ, pos, negsuc, neg_ℤ, ◌+ℤ◌, ◌*ℤ◌, ◌≤ℤ◌, ◌<ℤ◌, int_div, int_lt, int_le, not, ◌||◌, unsigned_abs, FitsSigned, w64, Bool, true, false, ◌&&◌, cond, List, [], ◌∷◌, length, get_or, Result, Ok, Err, refl, sym, ap, ◌∙◌, lit<, subst, arith}
use Rattle.std.specs.Int.{int_min, int_max, w128}
use Rattle.std.specs.Ordering.{int_eq}
use Rattle.std.specs.Int.Signed.{mag}
use Rattle.std.proofs.lemmas.Bool.{cond-true, cond-false, both_ways, false_from_ne_true}
use Rattle.std.proofs.lemmas.Bool.Decides.{nat_tests, Decides-int_eq}
use Rattle.std.proofs.lemmas.Int.{ints, clamps, to_z-of_z, fits_signed_mul}
use Rattle.pf_num.specs.Exact.{exact, is_i64}
use Rattle.pf_num.specs.InnerProduct.{inner_product}
use Rattle.pf_num.specs.Quotient.{exact_quotient}
use Rattle.pf_num.specs.declared.fault.NumFault.{NumFault}
use Rattle.pf_num.specs.declared.fault.NumFault.TheVariants.{Overflow, ZeroDivisor}
use Rattle.kern_range.specs.declared.interval.Interval.{Interval}
use Rattle.kern_range.specs.Intervals.{with_ends, narrow, hull, hull_of, at_corners, holds_zero, quotient, bad}
use Rattle.kern_range.proofs.IntervalLemmas.{Inside, inside, exact-inside, exact-outside, leaves, stays}

abs_le : (x : ℤ) → FitsSigned w64 x → unsigned_abs x ≤ 2 ^ 63
abs_le (pos n) h = let p : n < 2 ^ 63 = h.sfits in omega arith
abs_le (negsuc n) h = let p : n < 2 ^ 63 = h.sfits in omega arith

pub fits_wide : (x : ℤ) → FitsSigned w64 x → FitsSigned w128 x
fits_wide x f = record { sfits = let p : mag x < 2 ^ 63 = f.sfits in omega arith }

pub product_fits : (x y : ℤ) → FitsSigned w64 x → FitsSigned w64 y → FitsSigned w128 (x *ℤ y)
product_fits x y f g = fits_signed_mul w128 x y (2 ^ 63) (2 ^ 63) (abs_le x f) (abs_le y g) (lit< tt)

pub ruleset products = (to_z-of_z, fits_wide, product_fits)

-- ---- the lesser and the greater

module _ (x y : ℤ) (at_most : Bool) (is : at_most ≡ int_le x y) where
  pub least_is_first : at_most ≡ true → x ≡ int_min x y
  least_is_first e = let f = sym is ∙ e in omega (arith, ints, clamps)

  pub least_is_second : at_most ≡ false → y ≡ int_min x y
  least_is_second e = let f = sym is ∙ e in omega (arith, ints, clamps)

  pub greatest_is_second : at_most ≡ true → y ≡ int_max x y
  greatest_is_second e = let f = sym is ∙ e in omega (arith, ints, clamps)

  pub greatest_is_first : at_most ≡ false → x ≡ int_max x y
  greatest_is_first e = let f = sym is ∙ e in omega (arith, ints, clamps)

pub plus_zero : (x : ℤ) → x +ℤ pos 0 ≡ x
plus_zero x = omega (arith, ints)

pub times_one : (x : ℤ) → x *ℤ pos 1 ≡ x
times_one x = omega (arith, ints)

pub ruleset sums = (to_z-of_z, plus_zero, times_one)

-- ---- the hull of four

least_inside : (x y : ℤ) → Inside x → Inside y → Inside (int_min x y)
least_inside x y h k = let a = h.low in let b = h.high in let c = k.low in let d = k.high in record { low = omega (arith, ints, clamps); high = omega (arith, ints, clamps) }

greatest_inside : (x y : ℤ) → Inside x → Inside y → Inside (int_max x y)
greatest_inside x y h k = let a = h.low in let b = h.high in let c = k.low in let d = k.high in record { low = omega (arith, ints, clamps); high = omega (arith, ints, clamps) }

second_bad : (w y z : Result ℤ NumFault) → hull_of w (Err Overflow) y z ≡ bad
second_bad (Ok w) y z = refl
second_bad (Err f) y z = refl

third_bad : (w x z : Result ℤ NumFault) → hull_of w x (Err Overflow) z ≡ bad
third_bad (Ok w) (Ok x) z = refl
third_bad (Ok w) (Err f) z = refl
third_bad (Err f) x z = refl

fourth_bad : (w x y : Result ℤ NumFault) → hull_of w x y (Err Overflow) ≡ bad
fourth_bad (Ok w) (Ok x) (Ok y) = refl
fourth_bad (Ok w) (Ok x) (Err f) = refl
fourth_bad (Ok w) (Err f) y = refl
fourth_bad (Err f) x y = refl

module _ (p q r s : ℤ) where
  abbrev all : Interval
  all = hull p (q ∷ r ∷ s ∷ [])

  by : (a : Bool) → is_i64 p ≡ a → (b : Bool) → is_i64 q ≡ b → (c : Bool) → is_i64 r ≡ c → (d : Bool) → is_i64 s ≡ d → hull_of (exact p) (exact q) (exact r) (exact s) ≡ narrow all
  by false e b f c g d h = ap (λ x. hull_of x (exact q) (exact r) (exact s)) (exact-outside p e) ∙ sym (leaves all p (omega (arith, ints, clamps)) (omega (arith, ints, clamps)) e)
  by true e false f c g d h = ap (λ x. hull_of (exact p) x (exact r) (exact s)) (exact-outside q f) ∙ second_bad (exact p) (exact r) (exact s) ∙ sym (leaves all q (omega (arith, ints, clamps)) (omega (arith, ints, clamps)) f)
  by true e true f false g d h = ap (λ x. hull_of (exact p) (exact q) x (exact s)) (exact-outside r g) ∙ third_bad (exact p) (exact q) (exact s) ∙ sym (leaves all r (omega (arith, ints, clamps)) (omega (arith, ints, clamps)) g)
  by true e true f true g false h = ap (λ x. hull_of (exact p) (exact q) (exact r) x) (exact-outside s h) ∙ fourth_bad (exact p) (exact q) (exact r) ∙ sym (leaves all s (omega (arith, ints, clamps)) (omega (arith, ints, clamps)) h)
  by true e true f true g true h =
      let ip = inside p e in let iq = inside q f in let ir = inside r g in let is = inside s h in
      ap (λ x. hull_of x (exact q) (exact r) (exact s)) (exact-inside p ip)
      ∙ ap (λ x. hull_of (Ok p) x (exact r) (exact s)) (exact-inside q iq)
      ∙ ap (λ x. hull_of (Ok p) (Ok q) x (exact s)) (exact-inside r ir)
      ∙ ap (λ x. hull_of (Ok p) (Ok q) (Ok r) x) (exact-inside s is)
      ∙ sym (ap (λ x. with_ends x (exact all.greatest)) (exact-inside all.least (least_inside (int_min (int_min p q) r) s (least_inside (int_min p q) r (least_inside p q ip iq) ir) is))
      ∙ ap (with_ends (Ok all.least)) (exact-inside all.greatest (greatest_inside (int_max (int_max p q) r) s (greatest_inside (int_max p q) r (greatest_inside p q ip iq) ir) is)))

  hull_exact : hull_of (exact p) (exact q) (exact r) (exact s) ≡ narrow all
  hull_exact = by (is_i64 p) refl (is_i64 q) refl (is_i64 r) refl (is_i64 s) refl

-- ---- quotients

zero_held : (l g : ℤ) → l ≡ pos 0 → holds_zero (record { least = l; greatest = g }) ≡ true
zero_held l g e = subst (λ (x : ℤ). holds_zero (record { least = x; greatest = g }) ≡ true) (sym e) refl

no_or : (a b : Bool) → not ((a && false) || (b && false)) ≡ true
no_or true true = refl
no_or true false = refl
no_or false true = refl
no_or false false = refl

zero_held' : (l g : ℤ) → g ≡ pos 0 → holds_zero (record { least = l; greatest = g }) ≡ true
zero_held' l g e = subst (λ (x : ℤ). holds_zero (record { least = l; greatest = x }) ≡ true) (sym e) (no_or (int_lt (pos 0) l) (int_lt l (pos 0)))

divided : (a b : ℤ) → (b ≡ pos 0 → ⊥) → exact_quotient a b ≡ exact (int_div a b)
unfolding exact_quotient
divided a b h = cond-false (int_eq b (pos 0)) (Err ZeroDivisor) (exact (int_div a b)) (false_from_ne_true _ (λ e. h ((Decides-int_eq b (pos 0)).0 e)))

pub quotients_are : (a c : Interval) (p q r s : Result ℤ NumFault) → holds_zero c ≡ false
    → p ≡ exact_quotient a.least c.least → q ≡ exact_quotient a.least c.greatest → r ≡ exact_quotient a.greatest c.least → s ≡ exact_quotient a.greatest c.greatest
    → hull_of p q r s ≡ quotient a c
quotients_are a c p q r s z e f g h =
    let low : c.least ≡ pos 0 → ⊥ = λ o. let yes = zero_held c.least c.greatest o in let no : ⊥ = cc in no in
    let high : c.greatest ≡ pos 0 → ⊥ = λ o. let yes = zero_held' c.least c.greatest o in let no : ⊥ = cc in no in
    ap (λ x. hull_of x q r s) (e ∙ divided a.least c.least low)
    ∙ ap (λ x. hull_of (exact (int_div a.least c.least)) x r s) (f ∙ divided a.least c.greatest high)
    ∙ ap (λ x. hull_of (exact (int_div a.least c.least)) (exact (int_div a.least c.greatest)) x s) (g ∙ divided a.greatest c.least low)
    ∙ ap (λ x. hull_of (exact (int_div a.least c.least)) (exact (int_div a.least c.greatest)) (exact (int_div a.greatest c.least)) x) (h ∙ divided a.greatest c.greatest high)
    ∙ hull_exact (int_div a.least c.least) (int_div a.least c.greatest) (int_div a.greatest c.least) (int_div a.greatest c.greatest)
    ∙ sym (cond-false (holds_zero c) bad (narrow (at_corners int_div a c)) z)
