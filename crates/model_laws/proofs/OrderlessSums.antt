-- Moments don't depend on the order of the particles.
use Rattle.std.proofs.Common.{◌≡◌, ℕ, suc, ◌+◌, ◌*◌, ℤ, pos, negsuc, ◌-ℤ◌, Bool, true, false, cond, List, [], ◌∷◌, length, refl, sym, ◌∙◌, ap, arith}
use Rattle.std.specs.List.{filter, sum_by}
use Rattle.std.specs.List.Sorted.{IsPermutation}
use Rattle.std.proofs.lemmas.Int.{ints}
use Rattle.std.proofs.lemmas.List.Sums.{sum_by-cons}
use Rattle.std.proofs.lemmas.List.Sorted.{sum_by-IsPermutation}
use Rattle.pf_model.specs.Particle.{Particle}
use Rattle.pf_model.specs.Sums.{int_sum_by, attribute, moment_of}

-- a sum over those that pass a test, as a sum over all
abbrev kept : (Particle → Bool) → (Particle → ℕ) → Particle → ℕ
kept test f = λ j. cond (test j) (f j) 0

choose : (f : Particle → ℕ) (b : Bool) (j : Particle) (ks : List Particle) → sum_by f (cond b (j ∷ ks) ks) ≡ cond b (f j) 0 + sum_by f ks
choose f true j ks = sum_by-cons f j ks
choose f false j ks = omega arith

sum_by-filter : (test : Particle → Bool) (f : Particle → ℕ) (js : List Particle) → sum_by f (filter test js) ≡ sum_by (kept test f) js
sum_by-filter test f [] = refl
sum_by-filter test f (j ∷ js) =
    choose f (test j) j (filter test js) ∙ ap (λ (n : ℕ). cond (test j) (f j) 0 + n) (sum_by-filter test f js) ∙ sym (sum_by-cons (kept test f) j js)

-- each number of the one list's particles has the sum that it has over the other's
abbrev pub HaveSameSums : List Particle → List Particle → Type 0
HaveSameSums js ks = (f : Particle → ℕ) → sum_by f js ≡ sum_by f ks

pub same_sums : (js ks : List Particle) → IsPermutation js ks → HaveSameSums js ks
same_sums js ks h f = sym (sum_by-IsPermutation f js ks h)

pub same_sums-filter : (test : Particle → Bool) (js ks : List Particle) → IsPermutation js ks → HaveSameSums (filter test js) (filter test ks)
same_sums-filter test js ks h f = sum_by-filter test f js ∙ same_sums js ks h (kept test f) ∙ sym (sum_by-filter test f ks)

-- how far a whole number is above 0, and how far below
above : ℤ → ℕ
above (pos n) = n
above (negsuc n) = 0

below : ℤ → ℕ
below (pos n) = 0
below (negsuc n) = suc n

above-below : (z : ℤ) → z ≡ pos (above z) -ℤ pos (below z)
unfolding above below
above-below (pos n) = omega (arith, ints)
above-below (negsuc n) = omega (arith, ints)

int_sum-split : (f : Particle → ℤ) (js : List Particle) → int_sum_by f js ≡ pos (sum_by (λ j. above (f j)) js) -ℤ pos (sum_by (λ j. below (f j)) js)
int_sum-split f [] = refl
int_sum-split f (j ∷ js) =
    let head = above-below (f j) in
    let tail = int_sum-split f js in
    let up = sum_by-cons (λ (i : Particle). above (f i)) j js in
    let down = sum_by-cons (λ (i : Particle). below (f i)) j js in
    omega (arith, ints)

same_int_sum : (js ks : List Particle) → HaveSameSums js ks → (f : Particle → ℤ) → int_sum_by f js ≡ int_sum_by f ks
same_int_sum js ks same f =
    let up = same (λ (i : Particle). above (f i)) in
    let down = same (λ (i : Particle). below (f i)) in
    let left = int_sum-split f js in
    let right = int_sum-split f ks in
    omega (arith, ints)

length-sum : (js : List Particle) → length js ≡ sum_by (λ _. 1) js
length-sum [] = refl
length-sum (j ∷ js) = let rest = length-sum js in let e = sum_by-cons (λ (_ : Particle). 1) j js in omega arith

pub moment_from_sums : (js ks : List Particle) → HaveSameSums js ks → moment_of js ≡ moment_of ks
unfolding moment_of
moment_from_sums js ks same =
    let count = length-sum js ∙ same (λ (_ : Particle). 1) ∙ sym (length-sum ks) in
    let mass = same (λ (j : Particle). j.mass) in
    let x = same (λ (j : Particle). j.mass * j.at.x) in
    let y = same (λ (j : Particle). j.mass * j.at.y) in
    let z = same (λ (j : Particle). j.mass * j.at.z) in
    let attr = λ (k : ℕ). same_int_sum js ks same (λ j. attribute j.attr k) in
    λ i. record {
      count = count i;
      mass = mass i;
      weighted = x i ∷ y i ∷ z i ∷ [];
      attr = attr 0 i ∷ attr 1 i ∷ attr 2 i ∷ attr 3 i ∷ attr 4 i ∷ attr 5 i ∷ attr 6 i ∷ attr 7 i ∷ [];
    }
