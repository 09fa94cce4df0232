-- Lists in which all elements that pass a test come first, and the run after them that passes another.
use Rattle.std.proofs.Common.{◌≡◌, ℕ, zero, suc, ◌+◌, ◌<◌, ◌≤◌, Bool, true, false, cond, List, [], ◌∷◌, length, get_or, take, drop, inl, inr, refl, sym, ◌∙◌, ap, arith}
use Rattle.std.specs.List.{filter, count_by}
use Rattle.std.specs.List.Sorted.{IsPartitionedBy, IsPartitionPoint}
use Rattle.std.proofs.lemmas.Bool.{cases_Bool, both_ways, false_from_ne_true, cond-true, cond-false, cond_both}
use Rattle.std.proofs.lemmas.List.Sums.{sum_by-cons, length-filter}

one_more : (b : Bool) (n : ℕ) → b ≡ true → cond b 1 0 + n ≡ suc n
one_more true n e = omega arith
one_more false n e = absurd (both_ways false refl e)

no_more : (b : Bool) (n : ℕ) → b ≡ false → cond b 1 0 + n ≡ n
no_more true n e = absurd (both_ways true e refl)
no_more false n e = omega arith

pub count_yes : {X : Type 0} (p : X → Bool) (x : X) (xs : List X) → p x ≡ true → count_by p (x ∷ xs) ≡ suc (count_by p xs)
count_yes p x xs e = sum_by-cons (λ y. cond (p y) 1 0) x xs ∙ one_more (p x) (count_by p xs) e

pub count_no : {X : Type 0} (p : X → Bool) (x : X) (xs : List X) → p x ≡ false → count_by p (x ∷ xs) ≡ count_by p xs
count_no p x xs e = sum_by-cons (λ y. cond (p y) 1 0) x xs ∙ no_more (p x) (count_by p xs) e

-- no element passes
abbrev pub NonePasses : {X : Type 0} → (X → Bool) → List X → Type 0
NonePasses {X} p xs = (i : ℕ) (d : X) → i < length xs → p (get_or xs i d) ≡ false

NonePasses-tail : {X : Type 0} (p : X → Bool) (x : X) (xs : List X) → NonePasses p (x ∷ xs) → NonePasses p xs
NonePasses-tail p x xs h i d less = h (suc i) d (omega arith)

pub count_none : {X : Type 0} (p : X → Bool) (xs : List X) → NonePasses p xs → count_by p xs ≡ 0
count_none p [] h = refl
count_none p (x ∷ xs) h = count_no p x xs (h 0 x (omega arith)) ∙ count_none p xs (NonePasses-tail p x xs h)

IsPartitionedBy-tail : {X : Type 0} (p : X → Bool) (x : X) (xs : List X) → IsPartitionedBy p (x ∷ xs) → IsPartitionedBy p xs
IsPartitionedBy-tail p x xs h i j d least within e = h (suc i) (suc j) d (omega arith) (omega arith) e

none_after : {X : Type 0} (p : X → Bool) (x : X) (xs : List X) → IsPartitionedBy p (x ∷ xs) → p x ≡ false → NonePasses p xs
none_after p x xs h fails i d less = false_from_ne_true (p (get_or xs i d)) (λ e. both_ways (p x) fails (h 0 (suc i) d (omega arith) (omega arith) e))

-- below the count each element passes
pub passes_below : {X : Type 0} (p : X → Bool) (xs : List X) → IsPartitionedBy p xs → (i : ℕ) (d : X) → i < count_by p xs → p (get_or xs i d) ≡ true
passes_below p [] h i d less = absurd (omega arith)
passes_below p (x ∷ xs) h zero d less =
    elim (cases_Bool (p x)) [
      | inl holds ↦ holds
      | inr fails ↦ (let none = count_none p xs (none_after p x xs h fails) in let count = count_no p x xs fails in absurd (omega arith))
    ]
passes_below p (x ∷ xs) h (suc i) d less =
    elim (cases_Bool (p x)) [
      | inl holds ↦ (let count = count_yes p x xs holds in passes_below p xs (IsPartitionedBy-tail p x xs h) i d (omega arith))
      | inr fails ↦ (let none = count_none p xs (none_after p x xs h fails) in let count = count_no p x xs fails in absurd (omega arith))
    ]

-- and from it on none
pub fails_from : {X : Type 0} (p : X → Bool) (xs : List X) → IsPartitionedBy p xs → (i : ℕ) (d : X) → count_by p xs ≤ i → i < length xs → p (get_or xs i d) ≡ false
fails_from p [] h i d least less = absurd (omega arith)
fails_from p (x ∷ xs) h zero d least less =
    elim (cases_Bool (p x)) [
      | inl holds ↦ (let count = count_yes p x xs holds in absurd (omega arith))
      | inr fails ↦ fails
    ]
fails_from p (x ∷ xs) h (suc i) d least less =
    elim (cases_Bool (p x)) [
      | inl holds ↦ (let count = count_yes p x xs holds in fails_from p xs (IsPartitionedBy-tail p x xs h) i d (omega arith) (omega arith))
      | inr fails ↦ none_after p x xs h fails i d (omega arith)
    ]

-- a place with passes below it and none from it on is the count
pub point_is_count : {X : Type 0} (p : X → Bool) (xs : List X) (r : ℕ) → r ≤ length xs → IsPartitionPoint (λ y. p y ≡ true) (λ y. p y ≡ false) xs r → r ≡ count_by p xs
point_is_count p [] zero within h = refl
point_is_count p [] (suc r) within h = absurd (omega arith)
point_is_count p (x ∷ xs) zero within h = sym (count_none p (x ∷ xs) (λ i d less. h.1 i d (omega arith) less))
point_is_count p (x ∷ xs) (suc r) within h =
    let rest = point_is_count p xs r (omega arith) (λ k d a b. h.0 (suc k) d (omega arith) (omega arith), λ k d a b. h.1 (suc k) d (omega arith) (omega arith)) in
    let here = count_yes p x xs (h.0 0 x (omega arith) (omega arith)) in
    omega arith

-- each element that q passes comes after those that p passes, and before all others
pub record IsRunAfter {X : Type 0} (p q : X → Bool) (xs : List X) : Type 0 where
  pub apart : (x : X) → p x ≡ true → q x ≡ false
  pub first : IsPartitionedBy p xs
  pub run : (i j : ℕ) (d : X) → i ≤ j → j < length xs → q (get_or xs j d) ≡ true → q (get_or xs i d) ≡ false → p (get_or xs i d) ≡ true

IsRunAfter-tail : {X : Type 0} (p q : X → Bool) (x : X) (xs : List X) → IsRunAfter p q (x ∷ xs) → IsRunAfter p q xs
IsRunAfter-tail p q x xs h = record {
  apart = h.apart;
  first = IsPartitionedBy-tail p x xs h.first;
  run = λ i j d least within e f. h.run (suc i) (suc j) d (omega arith) (omega arith) e f;
}

-- what q passes is the run of that length after what p passes
pub run_is_filter : {X : Type 0} (p q : X → Bool) (xs : List X) → IsRunAfter p q xs → take (length (filter q xs)) (drop (count_by p xs) xs) ≡ filter q xs
run_is_filter p q [] h = refl
run_is_filter {X} p q (x ∷ xs) h =
    let rest = run_is_filter p q xs (IsRunAfter-tail p q x xs h) in
    let run : List X → ℕ → List X = λ ys n. take (length ys) (drop n (x ∷ xs)) in
    elim (cases_Bool (p x)) [
      | inl holds ↦
          let skipped : filter q (x ∷ xs) ≡ filter q xs = cond-false (q x) _ _ (h.apart x holds) in
          ap (λ ys. run ys (count_by p (x ∷ xs))) skipped ∙ ap (run (filter q xs)) (count_yes p x xs holds) ∙ rest ∙ sym skipped
      | inr fails ↦
          let none = count_none p xs (none_after p x xs h.first fails) in
          let start = count_no p x xs fails ∙ none in
          elim (cases_Bool (q x)) [
            | inl kept ↦
                let whole : filter q (x ∷ xs) ≡ x ∷ filter q xs = cond-true (q x) _ _ kept in
                let tail : take (length (filter q xs)) xs ≡ filter q xs = ap (λ n. take (length (filter q xs)) (drop n xs)) (sym none) ∙ rest in
                ap (λ ys. run ys (count_by p (x ∷ xs))) whole ∙ ap (run (x ∷ filter q xs)) start ∙ ap (λ ys. x ∷ ys) tail ∙ sym whole
            | inr left ↦
                let empty : length (filter q xs) ≡ 0 =
                length-filter q xs ∙ count_none q xs (λ i d less. false_from_ne_true (q (get_or xs i d)) (λ e. both_ways (p x) fails (h.run 0 (suc i) d (omega arith) (omega arith) e left))) in
                let skipped : filter q (x ∷ xs) ≡ filter q xs = cond-false (q x) _ _ left in
                let nothing : filter q xs ≡ [] = sym rest ∙ ap (λ n. take n (drop (count_by p xs) xs)) empty in
                ap (λ ys. run ys (count_by p (x ∷ xs))) (skipped ∙ nothing) ∙ sym (skipped ∙ nothing)
          ]
    ]

-- where r passes what p passes and what q passes, its count is both together
pub counts_add : {X : Type 0} (p q r : X → Bool) (xs : List X) → ((x : X) → cond (r x) 1 0 ≡ cond (p x) 1 0 + cond (q x) 1 0) → count_by r xs ≡ count_by p xs + count_by q xs
counts_add p q r [] h = refl
counts_add {X} p q r (x ∷ xs) h =
    let rest = counts_add p q r xs h in
    let here = h x in
    let of_p = sum_by-cons (λ (y : X). cond (p y) 1 0) x xs in
    let of_q = sum_by-cons (λ (y : X). cond (q y) 1 0) x xs in
    let of_r = sum_by-cons (λ (y : X). cond (r y) 1 0) x xs in
    omega arith

-- where some element passes, the filter keeps one
pub some_kept : {X : Type 0} (p : X → Bool) (xs : List X) (k : ℕ) (d : X) → k < length xs → p (get_or xs k d) ≡ true → 1 ≤ length (filter p xs)
some_kept p [] k d within e = absurd (omega arith)
some_kept p (x ∷ xs) zero d within e = let whole = ap length (cond-true (p x) (x ∷ filter p xs) (filter p xs) e) in omega arith
some_kept p (x ∷ xs) (suc k) d within e =
    let rest = some_kept p xs k d (omega arith) e in
    cond_both (p x) (x ∷ filter p xs) (filter p xs) (λ ys. 1 ≤ length ys) (λ _. omega arith) (λ _. rest)
