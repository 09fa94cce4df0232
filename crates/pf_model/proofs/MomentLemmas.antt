-- Moments: their limits, and the moment of more particles.
use Rattle.std.proofs.Common.{◌≡◌, ℕ, zero, suc, ◌+◌, ◌*◌, ◌^◌, ◌<◌, ◌≤◌, ℤ, pos, ◌+ℤ◌, unsigned_abs, Bool, true, false, cond, List, [], ◌∷◌, ◌++◌, length, get_or, take, drop, set, inl, inr, ◌-◌, refl, sym, ◌∙◌, ap, arith}
use Rattle.std.specs.List.{All, filter}
use Rattle.std.proofs.lemmas.Int.{ints}
use Rattle.std.proofs.lemmas.Bool.{cases_lt, cond_both, cond-true, cond-false}
use Rattle.std.proofs.lemmas.List.Sums.{sum_by-append}
use Rattle.std.proofs.lemmas.List.{get_or_past, length-take-le, length-append, append-nil}
use Rattle.std.proofs.lemmas.List.Elements.{All-nil, All-cons, All-head, All-tail, All-weaker, filter_more}
use Rattle.pf_model.specs.Totals.{IsSumOf}
use Rattle.pf_model.specs.Particle.{Particle}
use Rattle.pf_model.specs.Sums.{int_sum_by, attribute, moment_of, pairwise_sums, together}

abs-add : (a b : ℤ) (m n : ℕ) → unsigned_abs a ≤ m → unsigned_abs b ≤ n → unsigned_abs (a +ℤ b) ≤ m + n
abs-add a b m n p q = omega (arith, ints)

pub All-pairwise_sums : (m n : ℕ) (xs ys : List ℤ) → All (λ x. unsigned_abs x ≤ m) xs → All (λ x. unsigned_abs x ≤ n) ys → All (λ x. unsigned_abs x ≤ m + n) (pairwise_sums xs ys)
All-pairwise_sums m n [] ys p q = All-nil (λ x. unsigned_abs x ≤ m + n)
All-pairwise_sums m n (x ∷ xs) [] p q = All-nil (λ x. unsigned_abs x ≤ m + n)
All-pairwise_sums m n (x ∷ xs) (y ∷ ys) p q =
    All-cons (λ x. unsigned_abs x ≤ m + n) (x +ℤ y) (pairwise_sums xs ys)
    (abs-add x y m n (All-head (λ x. unsigned_abs x ≤ m) x xs p) (All-head (λ x. unsigned_abs x ≤ n) y ys q))
    (All-pairwise_sums m n xs ys (All-tail (λ x. unsigned_abs x ≤ m) x xs p) (All-tail (λ x. unsigned_abs x ≤ n) y ys q))

-- one sum more
pub pairwise_sums-more : (xs ys : List ℤ) (k : ℕ) (d : ℤ) → k < length xs → length xs ≡ length ys → set (take k (pairwise_sums xs ys) ++ drop k xs) k (get_or xs k d +ℤ get_or ys k d) ≡ take (suc k) (pairwise_sums xs ys) ++ drop (suc k) xs
pairwise_sums-more [] ys k d h e = absurd (omega arith)
pairwise_sums-more (x ∷ xs) [] k d h e = absurd (omega arith)
pairwise_sums-more (x ∷ xs) (y ∷ ys) zero d h e = refl
pairwise_sums-more (x ∷ xs) (y ∷ ys) (suc k) d h e = ap (λ l. (x +ℤ y) ∷ l) (pairwise_sums-more xs ys k d (omega arith) (omega arith))

-- all sums
pub pairwise_sums-whole : (xs ys : List ℤ) (k : ℕ) → length xs ≡ k → length ys ≡ k → take k (pairwise_sums xs ys) ++ drop k xs ≡ pairwise_sums xs ys
pairwise_sums-whole [] ys zero p q = refl
pairwise_sums-whole [] ys (suc k) p q = absurd (omega arith)
pairwise_sums-whole (x ∷ xs) ys zero p q = absurd (omega arith)
pairwise_sums-whole (x ∷ xs) [] (suc k) p q = absurd (omega arith)
pairwise_sums-whole (x ∷ xs) (y ∷ ys) (suc k) p q = ap (λ l. (x +ℤ y) ∷ l) (pairwise_sums-whole xs ys k (omega arith) (omega arith))

-- a list of eight is its eight elements
pub eight_elements : (xs : List ℤ) (d : ℤ) → length xs ≡ 8 → xs ≡ get_or xs 0 d ∷ get_or xs 1 d ∷ get_or xs 2 d ∷ get_or xs 3 d ∷ get_or xs 4 d ∷ get_or xs 5 d ∷ get_or xs 6 d ∷ get_or xs 7 d ∷ []
eight_elements (a ∷ b ∷ c ∷ e ∷ f ∷ g ∷ h ∷ i ∷ []) d p = refl
eight_elements _ d p = absurd (omega arith)

-- adding nothing
add_nothing : (a : ℤ) → a +ℤ pos 0 ≡ a
add_nothing a = omega (arith, ints)

-- the sums of the attributes of one particle are its attributes
pub attributes_of_one : (xs : List ℤ) → length xs ≡ 8 → xs ≡ (get_or xs 0 (pos 0) +ℤ pos 0) ∷ (get_or xs 1 (pos 0) +ℤ pos 0) ∷ (get_or xs 2 (pos 0) +ℤ pos 0) ∷ (get_or xs 3 (pos 0) +ℤ pos 0) ∷ (get_or xs 4 (pos 0) +ℤ pos 0) ∷ (get_or xs 5 (pos 0) +ℤ pos 0) ∷ (get_or xs 6 (pos 0) +ℤ pos 0) ∷ (get_or xs 7 (pos 0) +ℤ pos 0) ∷ []
attributes_of_one xs p = simp add_nothing (eight_elements xs (pos 0) p)

pub weighted_at : (most : ℕ) (ws : List ℕ) (k : ℕ) → All (λ w. w ≤ most) ws → get_or ws k 0 ≤ most
weighted_at most ws k all =
    elim (cases_lt k (length ws)) [
      | inl within ↦ all k 0 within
      | inr past ↦ rw (get_or_past ws k 0 past) (omega arith)
    ]

pub three_of : (P : ℕ → Type 0) (a b c : ℕ) → P a → P b → P c → All P (a ∷ b ∷ c ∷ [])
three_of P a b c p q r = All-cons P a (b ∷ c ∷ []) p (All-cons P b (c ∷ []) q (All-cons P c [] r (All-nil P)))

-- the limits of moments together
pub IsSumOf-pairwise : (count mass more heavier : ℕ) (xs ys : List ℤ) → count + more ≤ 65536 → IsSumOf count mass xs → IsSumOf more heavier ys → IsSumOf (count + more) (mass + heavier) (pairwise_sums xs ys)
IsSumOf-pairwise count mass more heavier xs ys few p q = record {
  few = few;
  heavy = (let a = p.heavy in let b = q.heavy in omega arith);
  light = (let a = p.light in let b = q.light in omega arith);
  small =
      All-weaker (λ x. unsigned_abs x ≤ count * 2 ^ 40 + more * 2 ^ 40) (λ x. unsigned_abs x ≤ (count + more) * 2 ^ 40) (λ x h. omega arith)
      (pairwise_sums xs ys) (All-pairwise_sums (count * 2 ^ 40) (more * 2 ^ 40) xs ys p.small q.small);
}

pub inside-sums : (mass heavier : ℕ) (ws vs : List ℕ) → All (λ w. w ≤ mass * (2 ^ 30 - 1)) ws → All (λ w. w ≤ heavier * (2 ^ 30 - 1)) vs →
    All (λ w. w ≤ (mass + heavier) * (2 ^ 30 - 1)) ((get_or ws 0 0 + get_or vs 0 0) ∷ (get_or ws 1 0 + get_or vs 1 0) ∷ (get_or ws 2 0 + get_or vs 2 0) ∷ [])
inside-sums mass heavier ws vs p q =
    let each : (k : ℕ) → get_or ws k 0 + get_or vs k 0 ≤ (mass + heavier) * (2 ^ 30 - 1) = λ k.
    (let a = weighted_at (mass * (2 ^ 30 - 1)) ws k p in let b = weighted_at (heavier * (2 ^ 30 - 1)) vs k q in omega arith) in
    three_of (λ w. w ≤ (mass + heavier) * (2 ^ 30 - 1)) _ _ _ (each 0) (each 1) (each 2)

length-filter-le : (test : Particle → Bool) (js : List Particle) → length (filter test js) ≤ length js
length-filter-le test [] = omega arith
length-filter-le test (j ∷ js) =
    let rest = length-filter-le test js in
    cond_both (test j) _ _ (λ l. length l ≤ length (j ∷ js)) (λ _. omega arith) (λ _. omega arith)

pub count-moment_of : (js : List Particle) → (moment_of js).count ≡ length js
unfolding moment_of
count-moment_of js = refl

-- of the first k particles no more than k are kept
pub count-kept : (test : Particle → Bool) (js : List Particle) (k : ℕ) → k ≤ length js → (moment_of (filter test (take k js))).count ≤ k
count-kept test js k within =
    let kept = length-filter-le test (take k js) in
    let first = length-take-le k js within in
    omega (arith, count-moment_of (filter test (take k js)))

int_sum_by-append : (f : Particle → ℤ) (is js : List Particle) → int_sum_by f (is ++ js) ≡ int_sum_by f is +ℤ int_sum_by f js
int_sum_by-append f [] js = let e : pos 0 +ℤ int_sum_by f js ≡ int_sum_by f js = omega (arith, ints) in sym e
int_sum_by-append f (i ∷ is) js = let rest = int_sum_by-append f is js in omega (arith, ints)

-- the moment of some particles and others
pub moment_of-append : (is js : List Particle) → moment_of (is ++ js) ≡ together (moment_of is) (moment_of js)
unfolding moment_of
moment_of-append is js =
    let count = length-append is js in
    let mass = sum_by-append (λ (j : Particle). j.mass) is js in
    let x = sum_by-append (λ (j : Particle). j.mass * j.at.x) is js in
    let y = sum_by-append (λ (j : Particle). j.mass * j.at.y) is js in
    let z = sum_by-append (λ (j : Particle). j.mass * j.at.z) is js in
    let attr = λ (k : ℕ). int_sum_by-append (λ j. attribute j.attr k) is js in
    λ i. record {
      count = count i;
      mass = mass i;
      weighted = x i ∷ y i ∷ z i ∷ [];
      attr = attr 0 i ∷ attr 1 i ∷ attr 2 i ∷ attr 3 i ∷ attr 4 i ∷ attr 5 i ∷ attr 6 i ∷ attr 7 i ∷ [];
    }

-- one particle more, that is kept or isn't
pub moment-more : (test : Particle → Bool) (js : List Particle) (k : ℕ) (j : Particle) → k < length js → get_or js k j ≡ j → test j ≡ true → together (moment_of (filter test (take k js))) (moment_of (j ∷ [])) ≡ moment_of (filter test (take (k + 1) js))
moment-more test js k j within at e =
    let kept : cond (test (get_or js k j)) (get_or js k j ∷ []) [] ≡ j ∷ [] = cond-true (test (get_or js k j)) _ _ (ap test at ∙ e) ∙ ap (λ (v : Particle). v ∷ []) at in
    let more = filter_more test js k j within ∙ ap (λ l. filter test (take k js) ++ l) kept in
    sym (ap moment_of more ∙ moment_of-append (filter test (take k js)) (j ∷ []))

pub moment-same : (test : Particle → Bool) (js : List Particle) (k : ℕ) (j : Particle) → k < length js → get_or js k j ≡ j → test j ≡ false → moment_of (filter test (take k js)) ≡ moment_of (filter test (take (k + 1) js))
moment-same test js k j within at e =
    let none : cond (test (get_or js k j)) (get_or js k j ∷ []) [] ≡ [] = cond-false (test (get_or js k j)) _ _ (ap test at ∙ e) in
    let more = filter_more test js k j within ∙ ap (λ l. filter test (take k js) ++ l) none ∙ append-nil (filter test (take k js)) in
    sym (ap moment_of more)
