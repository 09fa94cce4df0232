-- The ends of intervals in 64 bits.
use Rattle.std.proofs.Common.{◌≡◌, ◌<◌, ◌≤◌, ◌^◌, ℕ, ℤ, pos, negsuc, neg_ℤ, ◌≤ℤ◌, ◌<ℤ◌, int_le, int_lt, ◌&&◌, cond, FitsSigned, w64, to_z, of_z, Bool, true, false, List, [], ◌∷◌, Result, Ok, Err, refl, sym, ap, ap₂, ◌∙◌, subst, arith}
use Rattle.std.specs.Int.{int_min, int_max}
use Rattle.std.proofs.lemmas.Bool.{cond-true, cond-false}
use Rattle.std.proofs.lemmas.Bool.Decides.{nat_tests}
use Rattle.std.proofs.lemmas.Int.{ints, clamps, to_z-of_z, to_z_pos}
use Rattle.pf_num.specs.Exact.{exact, is_i64}
use Rattle.pf_num.specs.declared.fault.NumFault.{NumFault}
use Rattle.pf_num.specs.declared.fault.NumFault.TheVariants.{Overflow}
use Rattle.kern_range.specs.declared.interval.Interval.{Interval}
use Rattle.kern_range.specs.Intervals.{with_ends, narrow, negative, magnitude, bad}

is_i64-true : (z : ℤ) → FitsSigned w64 z → is_i64 z ≡ true
is_i64-true (pos n) h = grind (arith, nat_tests, h.sfits)
is_i64-true (negsuc n) h = grind (arith, nat_tests, h.sfits)

pub exact-fits : (z : ℤ) → FitsSigned w64 z → exact z ≡ Ok z
unfolding exact
exact-fits z h = cond-true (is_i64 z) (Ok z) (Err Overflow) (is_i64-true z h)

-- an interval whose ends are i64s
pub narrow-fits : (a : Interval) → FitsSigned w64 a.least → FitsSigned w64 a.greatest → narrow a ≡ Ok a
narrow-fits a h k = ap (λ x. with_ends x (exact a.greatest)) (exact-fits a.least h) ∙ ap (λ y. with_ends (Ok a.least) y) (exact-fits a.greatest k)

pub ruleset ends = (to_z-of_z, narrow-fits)

-- ---- numbers out of 64 bits

both_hold : (a b : Bool) → (a && b) ≡ true → (a ≡ true) × (b ≡ true)
both_hold true true e = (refl, refl)
both_hold true false e = absurd (let no : ⊥ = cc in no)
both_hold false b e = absurd (let no : ⊥ = cc in no)

-- within 64 bits
pub record Inside (z : ℤ) : Type 0 where
  pub low : neg_ℤ (pos (2 ^ 63)) ≤ℤ z
  pub high : z <ℤ pos (2 ^ 63)

pub inside : (z : ℤ) → is_i64 z ≡ true → Inside z
inside z e = let h = both_hold (int_le (neg_ℤ (pos (2 ^ 63))) z) (int_lt z (pos (2 ^ 63))) e in let f = h.0 in let g = h.1 in record { low = omega (arith, ints); high = omega (arith, ints) }

tested : (z : ℤ) → Inside z → is_i64 z ≡ true
tested z h = by _ refl _ refl where
  by : (s : Bool) → int_le (neg_ℤ (pos (2 ^ 63))) z ≡ s → (t : Bool) → int_lt z (pos (2 ^ 63)) ≡ t → (s && t) ≡ true
  by true e true f = refl
  by false e t f = absurd (let l = h.low in omega (arith, ints))
  by true e false f = absurd (let g = h.high in omega (arith, ints))

pub exact-inside : (z : ℤ) → Inside z → exact z ≡ Ok z
unfolding exact
exact-inside z h = cond-true (is_i64 z) (Ok z) (Err Overflow) (tested z h)

pub exact-outside : (z : ℤ) → is_i64 z ≡ false → exact z ≡ Err Overflow
unfolding exact
exact-outside z e = cond-false (is_i64 z) (Ok z) (Err Overflow) e

not_both : (a : Interval) → is_i64 a.greatest ≡ false → (r : Result ℤ NumFault) → with_ends r (exact a.greatest) ≡ bad
not_both a e (Ok l) = ap (with_ends (Ok l)) (exact-outside a.greatest e)
not_both a e (Err f) = refl

-- what holds a number out of 64 bits leaves them
pub leaves : (a : Interval) (z : ℤ) → a.least ≤ℤ z → z ≤ℤ a.greatest → is_i64 z ≡ false → narrow a ≡ bad
leaves a z h k e = by _ refl _ refl where
  by : (s : Bool) → is_i64 a.least ≡ s → (t : Bool) → is_i64 a.greatest ≡ t → narrow a ≡ bad
  by false f t g = ap (λ x. with_ends x (exact a.greatest)) (exact-outside a.least f)
  by true f false g = not_both a g (exact a.least)
  by true f true g =
      let l = inside a.least f in let u = inside a.greatest g in
      let yes : is_i64 z ≡ true = tested z (let l' = l.low in let u' = u.high in record { low = omega (arith, ints); high = omega (arith, ints) }) in
      absurd (let no : ⊥ = cc in no)

pub stays : (a : Interval) → is_i64 a.least ≡ true → is_i64 a.greatest ≡ true → narrow a ≡ Ok a
stays a e f = ap (λ x. with_ends x (exact a.greatest)) (exact-inside a.least (inside a.least e)) ∙ ap (with_ends (Ok a.least)) (exact-inside a.greatest (inside a.greatest f))

-- ---- magnitudes

straddles : (a : Interval) → a.least <ℤ pos 0 → pos 0 <ℤ a.greatest → magnitude a ≡ record { least = pos 0; greatest = int_max (neg_ℤ a.least) a.greatest }
straddles a h k =
    cond-false (int_le (pos 0) a.least) a _ (by (int_le (pos 0) a.least) refl)
    ∙ cond-false (int_le a.greatest (pos 0)) (negative a) _ (by' (int_le a.greatest (pos 0)) refl) where
      by : (t : Bool) → int_le (pos 0) a.least ≡ t → t ≡ false
      by false e = refl
      by true e = absurd (omega (arith, ints))

      by' : (t : Bool) → int_le a.greatest (pos 0) ≡ t → t ≡ false
      by' false e = refl
      by' true e = absurd (omega (arith, ints))

-- of an answer
answer_is : (z n : ℤ) → Ok n ≡ exact z → (n ≡ z) × Inside z
unfolding exact
answer_is z n e = by (is_i64 z) refl e where
  by : (t : Bool) → is_i64 z ≡ t → Ok n ≡ cond t (Ok z) (Err Overflow) → (n ≡ z) × Inside z
  by true f g = (let is : n ≡ z = cc in is, inside z f)
  by false f g = absurd (let no : ⊥ = cc in no)

fault_is : (z : ℤ) (f : NumFault) → Err f ≡ exact z → is_i64 z ≡ false
unfolding exact
fault_is z f e = by (is_i64 z) refl e where
  by : (t : Bool) → is_i64 z ≡ t → Err f ≡ cond t (Ok z) (Err Overflow) → is_i64 z ≡ false
  by true g h = absurd (let no : ⊥ = cc in no)
  by false g h = g

fits_from_inside : (z : ℤ) → Inside z → FitsSigned w64 z
fits_from_inside (pos n) h = record { sfits = let u = h.high in omega (arith, ints) }
fits_from_inside (negsuc n) h = record { sfits = let l = h.low in omega (arith, ints) }

pub straddling : (a : Interval) (n m : ℤ) → a.least <ℤ pos 0 → pos 0 <ℤ a.greatest → FitsSigned w64 a.greatest → Ok n ≡ exact (neg_ℤ a.least)
    → m ≡ int_max (to_z w64 (of_z w64 n)) (to_z w64 (of_z w64 a.greatest)) → FitsSigned w64 m → Ok (record { least = pos 0; greatest = to_z w64 (of_z w64 m) }) ≡ narrow (magnitude a)
straddling a n m h k f e g fm =
    let is = answer_is (neg_ℤ a.least) n e in
    let own : FitsSigned w64 n = subst (λ (x : ℤ). FitsSigned w64 x) (sym is.0) (fits_from_inside (neg_ℤ a.least) is.1) in
    let top : to_z w64 (of_z w64 m) ≡ int_max (neg_ℤ a.least) a.greatest =
    to_z-of_z w64 m fm ∙ g ∙ ap₂ int_max (to_z-of_z w64 n own ∙ is.0) (to_z-of_z w64 a.greatest f) in
    ap (λ x. Ok (record { least = pos 0; greatest = x })) top
    ∙ sym (ap narrow (straddles a h k)
    ∙ stays (record { least = pos 0; greatest = int_max (neg_ℤ a.least) a.greatest }) refl
    (subst (λ (x : ℤ). is_i64 x ≡ true) (sym (to_z-of_z w64 m fm) ∙ top) (is_i64-true m fm)))

pub straddling_bad : (a : Interval) (f : NumFault) → a.least <ℤ pos 0 → pos 0 <ℤ a.greatest → Err f ≡ exact (neg_ℤ a.least) → bad ≡ narrow (magnitude a)
straddling_bad a f h k e =
    let out = fault_is (neg_ℤ a.least) f e in
    sym (ap narrow (straddles a h k) ∙ leaves _ (neg_ℤ a.least) (omega (arith, ints)) (omega (arith, ints, clamps)) out)

-- ---- literals

pub exact_small : (m : ℕ) → m < 2 ^ 63 → exact (pos m) ≡ Ok (pos m)
exact_small m h = exact-inside (pos m) (record { low = omega (arith, ints); high = omega (arith, ints) })

pub exact_large : (m : ℕ) → 2 ^ 63 ≤ m → exact (pos m) ≡ Err Overflow
exact_large m h = exact-outside (pos m) (by (is_i64 (pos m)) refl) where
  by : (t : Bool) → is_i64 (pos m) ≡ t → t ≡ false
  by false e = refl
  by true e = absurd (let u = (inside (pos m) e).high in omega (arith, ints))

pub ruleset literals = (to_z_pos, exact_small, exact_large)
