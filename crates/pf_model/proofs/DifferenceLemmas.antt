-- Differences of moments.
use Rattle.std.proofs.Common.{◌≡◌, ℕ, zero, suc, ◌+◌, ◌-◌, ◌<◌, ℤ, ◌+ℤ◌, ◌-ℤ◌, List, [], ◌∷◌, ◌++◌, length, get_or, take, drop, set, refl, sym, ◌∙◌, ap, arith}
use Rattle.std.proofs.lemmas.Int.{ints}
use Rattle.pf_model.specs.Totals.{Totals, IsTotals}
use Rattle.pf_model.specs.Sums.{together, pairwise_sums, pairwise_differences}

-- one difference more
pub pairwise_differences-more : (xs ys : List ℤ) (k : ℕ) (d : ℤ) → k < length xs → length xs ≡ length ys →
    set (take k (pairwise_differences xs ys) ++ drop k xs) k (get_or xs k d -ℤ get_or ys k d) ≡ take (suc k) (pairwise_differences xs ys) ++ drop (suc k) xs
pairwise_differences-more [] ys k d h e = absurd (omega arith)
pairwise_differences-more (x ∷ xs) [] k d h e = absurd (omega arith)
pairwise_differences-more (x ∷ xs) (y ∷ ys) zero d h e = refl
pairwise_differences-more (x ∷ xs) (y ∷ ys) (suc k) d h e = ap (λ l. (x -ℤ y) ∷ l) (pairwise_differences-more xs ys k d (omega arith) (omega arith))

-- all differences
pub pairwise_differences-whole : (xs ys : List ℤ) (k : ℕ) → length xs ≡ k → length ys ≡ k → take k (pairwise_differences xs ys) ++ drop k xs ≡ pairwise_differences xs ys
pairwise_differences-whole [] ys zero p q = refl
pairwise_differences-whole [] ys (suc k) p q = absurd (omega arith)
pairwise_differences-whole (x ∷ xs) ys zero p q = absurd (omega arith)
pairwise_differences-whole (x ∷ xs) [] (suc k) p q = absurd (omega arith)
pairwise_differences-whole (x ∷ xs) (y ∷ ys) (suc k) p q = ap (λ l. (x -ℤ y) ∷ l) (pairwise_differences-whole xs ys k (omega arith) (omega arith))

added_and_taken : (a b : ℤ) → (a +ℤ b) -ℤ a ≡ b
added_and_taken a b = omega (arith, ints)

-- what was added is left
pub pairwise_differences-sums : (xs ys : List ℤ) → length xs ≡ length ys → pairwise_differences (pairwise_sums xs ys) xs ≡ ys
pairwise_differences-sums [] [] e = refl
pairwise_differences-sums [] (y ∷ ys) e = absurd (omega arith)
pairwise_differences-sums (x ∷ xs) [] e = absurd (omega arith)
pairwise_differences-sums (x ∷ xs) (y ∷ ys) e =
    let here = added_and_taken x y in
    let rest = pairwise_differences-sums xs ys (omega arith) in
    λ i. here i ∷ rest i

-- each sum of the one less that of the other
abbrev pub difference : Totals → Totals → Totals
difference m n =
    let weighted = λ (k : ℕ). get_or m.weighted k 0 - get_or n.weighted k 0 in
    record {
      count = m.count - n.count;
      mass = m.mass - n.mass;
      weighted = weighted 0 ∷ weighted 1 ∷ weighted 2 ∷ [];
      attr = pairwise_differences m.attr n.attr;
    }

left_over : (a b : ℕ) → a + b - a ≡ b
left_over a b = omega arith

three_left : (vs ws : List ℕ) → length ws ≡ 3 →
    (get_or vs 0 0 + get_or ws 0 0 - get_or vs 0 0) ∷ (get_or vs 1 0 + get_or ws 1 0 - get_or vs 1 0) ∷ (get_or vs 2 0 + get_or ws 2 0 - get_or vs 2 0) ∷ [] ≡ ws
three_left vs (a ∷ b ∷ c ∷ []) e = simp left_over
three_left vs _ e = absurd (omega arith)

pub difference_is : (m n : Totals) → length n.weighted ≡ 3 → length m.attr ≡ length n.attr → difference (together m n) m ≡ n
difference_is m n three same =
    let count = left_over m.count n.count in
    let mass = left_over m.mass n.mass in
    let weighted = three_left m.weighted n.weighted three in
    let attr = pairwise_differences-sums m.attr n.attr same in
    λ i. record { count = count i; mass = mass i; weighted = weighted i; attr = attr i }

-- what together with s makes a is found by differences
pub rest_is : (a s rest : Totals) (attr : List ℤ) → a ≡ together s rest → IsTotals rest → length s.attr ≡ 8 → attr ≡ pairwise_differences a.attr s.attr → record (difference a s) { attr = attr } ≡ rest
rest_is a s rest attr makes limits eight attr_is =
    ap (λ (l : List ℤ). record (difference a s) { attr = l }) attr_is ∙ ap (λ (t : Totals). difference t s) makes ∙ difference_is s rest limits.three (eight ∙ sym limits.eight)
