-- A number in two halves of 64 bits, the lower one without sign.
use Rattle.std.proofs.Common.{◌≡◌, ◌<◌, ℕ, zero, suc, ◌+◌, ◌-◌, ◌*◌, ◌/◌, ◌%◌, ◌^◌, ℤ, pos, negsuc, neg_ℤ, ◌+ℤ◌, ◌*ℤ◌, ◌≤ℤ◌, ◌⊎◌, inl, inr, ⊎_elim, FitsSigned, w64, of_z, bit_and, List, [], ◌∷◌, length, get_or, Err, refl, sym, ap, ◌∙◌, arith}
use Rattle.std.specs.Int.{w128}
use Rattle.std.specs.Int.Signed.{shr_z}
use Rattle.std.proofs.lemmas.Int.{ints, to_z-of_z}
use Rattle.std.proofs.lemmas.Nat.{and_mask, div-add-mod', mod-mul-add}
use Rattle.pf_num.specs.Exact.{exact}
use Rattle.pf_num.specs.InnerProduct.{inner_product}
use Rattle.pf_num.specs.declared.fault.NumFault.TheVariants.{Overflow}
use Rattle.pf_num.proofs.ExactLemmas.{exact-overflows}
use Rattle.pf_num.proofs.WideLemmas.{fits_wide, product_fits, sum_of_two_fits, sum_of_three_fits}

pub high_fits : (p : ℤ) → FitsSigned w128 p → FitsSigned w64 (shr_z p (2 ^ 64))
high_fits (pos n) f = let h : n < 2 ^ 127 = f.sfits in record { sfits = omega arith }
high_fits (negsuc n) f = let h : n < 2 ^ 127 = f.sfits in record { sfits = omega arith }

-- the low half of a negative number, from the bits of its complement
low_of_negative : (n : ℕ) → n < 2 ^ 127 → (2 ^ 128 - suc n) % 2 ^ 64 + suc (n % 2 ^ 64) ≡ 2 ^ 64
low_of_negative n h =
    let split = div-add-mod' n (2 ^ 64) in
    let top = 2 ^ 64 - 1 - n / 2 ^ 64 in
    let rest = 2 ^ 64 - 1 - n % 2 ^ 64 in
    let bits : 2 ^ 128 - suc n ≡ top * 2 ^ 64 + rest = omega arith in
    let low : (2 ^ 128 - suc n) % 2 ^ 64 ≡ rest = ap (λ m. m % 2 ^ 64) bits ∙ mod-mul-add top (2 ^ 64) rest (omega arith) in
    omega arith

split : (p : ℤ) → FitsSigned w128 p → shr_z p (2 ^ 64) *ℤ pos (2 ^ 64) +ℤ pos (of_z w128 p % 2 ^ 64) ≡ p
split (pos n) f = ap pos (div-add-mod' n (2 ^ 64))
split (negsuc n) f =
    let h : n < 2 ^ 127 = f.sfits in
    let low = low_of_negative n h in
    let whole = div-add-mod' n (2 ^ 64) in
    omega (arith, ints)

pub halves_are : (p : ℤ) (n : ℕ) → FitsSigned w128 p → n ≡ of_z w128 p → shr_z p (2 ^ 64) *ℤ pos (2 ^ 64) +ℤ pos (bit_and n (2 ^ 64 - 1)) ≡ p
halves_are p n f e = ap (λ m. shr_z p (2 ^ 64) *ℤ pos (2 ^ 64) +ℤ pos m) (and_mask n 64 ∙ ap (λ m. m % 2 ^ 64) e) ∙ split p f

far_from_zero : (t : ℤ) → (of_z w128 t ≡ 0 → ⊥) → (of_z w128 t ≡ 2 ^ 128 - 1 → ⊥) → (pos 1 ≤ℤ t) ⊎ (t ≤ℤ negsuc 1)
far_from_zero (pos zero) h k = absurd (h refl)
far_from_zero (pos (suc n)) h k = inl (omega (arith, ints))
far_from_zero (negsuc zero) h k = absurd (k refl)
far_from_zero (negsuc (suc n)) h k = inr (omega (arith, ints))

-- where the high half is neither 0 nor -1, the number is no i64
pub exact-far : (h : ℤ) (n : ℕ) (t : ℤ) → t ≡ h +ℤ pos (n / 2 ^ 64) → (of_z w128 t ≡ 0 → ⊥) → (of_z w128 t ≡ 2 ^ 128 - 1 → ⊥) → Err Overflow ≡ exact (h *ℤ pos (2 ^ 64) +ℤ pos n)
exact-far h n t e zero_not ones_not =
    let whole = div-add-mod' n (2 ^ 64) in
    sym (exact-overflows _ (λ f. ⊎_elim
    (λ above. absurd (omega (arith, ints)))
    (λ below. absurd (omega (arith, ints)))
    (far_from_zero t zero_not ones_not)))

-- the sum of the halves is the sum
pub exact-sum : (hx hy hz : ℤ) (lx ly lz : ℕ) → exact ((hx +ℤ hy +ℤ hz) *ℤ pos (2 ^ 64) +ℤ pos (lx + ly + lz)) ≡ exact (hx *ℤ pos (2 ^ 64) +ℤ pos lx +ℤ (hy *ℤ pos (2 ^ 64) +ℤ pos ly +ℤ (hz *ℤ pos (2 ^ 64) +ℤ pos lz)))
exact-sum hx hy hz lx ly lz = ap exact (omega (arith, ints))

pub high_sum_at_least : (x y z : ℤ) → FitsSigned w64 x → FitsSigned w64 y → FitsSigned w64 z → neg_ℤ (pos (2 ^ 65)) ≤ℤ (x +ℤ y +ℤ z)
high_sum_at_least x y z f g h = omega (arith, ints)

pub high_sum_at_most : (x y z : ℤ) → FitsSigned w64 x → FitsSigned w64 y → FitsSigned w64 z → (x +ℤ y +ℤ z) ≤ℤ pos (2 ^ 65)
high_sum_at_most x y z f g h = omega (arith, ints)

three : (a : List ℤ) → length a ≡ 3 → a ≡ get_or a 0 (pos 0) ∷ get_or a 1 (pos 0) ∷ get_or a 2 (pos 0) ∷ []
three [] e = absurd (omega arith)
three (x ∷ []) e = absurd (omega arith)
three (x ∷ y ∷ []) e = absurd (omega arith)
three (x ∷ y ∷ z ∷ []) e = refl
three (x ∷ y ∷ z ∷ _ ∷ rest) e = absurd (omega arith)

pub inner_product-three : (a b : List ℤ) → length a ≡ 3 → length b ≡ 3 → inner_product a b ≡ get_or a 0 (pos 0) *ℤ get_or b 0 (pos 0) +ℤ (get_or a 1 (pos 0) *ℤ get_or b 1 (pos 0) +ℤ get_or a 2 (pos 0) *ℤ get_or b 2 (pos 0))
inner_product-three a b e f = ap (inner_product a) (three b f) ∙ ap (λ l. inner_product l (get_or b 0 (pos 0) ∷ get_or b 1 (pos 0) ∷ get_or b 2 (pos 0) ∷ [])) (three a e) ∙ omega (arith, ints)

pub ruleset product_halves = (to_z-of_z, fits_wide, product_fits, high_fits, halves_are)

pub ruleset sum_halves = (to_z-of_z, fits_wide, sum_of_two_fits, sum_of_three_fits, high_sum_at_least, high_sum_at_most, exact-sum)

pub ruleset three_products = (to_z-of_z, inner_product-three)
