-- A list and its parts between the elements that pass a test: the first part, and the rest.
use Rattle.std.proofs.Common.{◌≡◌, ℕ, Bool, true, false, not, List, [], ◌∷◌, ◌++◌, take, drop, refl, ap, ⊎_elim, one-add}
use Rattle.std.specs.List.{AllByRecursion, slice_split, onto_first, prefix_len}
use Rattle.std.proofs.lemmas.Bool.{cases_Bool}

-- how many elements stand before the first that passes
abbrev pub first_len : (ℕ → Bool) → List ℕ → ℕ
first_len test xs = prefix_len (λ x. not (test x)) xs

-- the parts after one that ends before these elements
abbrev pub parts_after : (ℕ → Bool) → List ℕ → List (List ℕ)
parts_after test [] = []
parts_after test (x ∷ xs) = slice_split test xs

-- the first part, and those after it
pub split_front : (test : ℕ → Bool) (xs : List ℕ) → slice_split test xs ≡ take (first_len test xs) xs ∷ parts_after test (drop (first_len test xs) xs)
split_front test [] = refl
split_front test (x ∷ xs) =
    ⊎_elim
    (λ (passes : test x ≡ true). (rw passes refl))
    (λ (fails : test x ≡ false). (rw (fails, one-add) (ap (onto_first x) (split_front test xs))))
    (cases_Bool (test x))

-- what is left begins with an empty part
pub split_rest : (test : ℕ → Bool) (xs : List ℕ) → slice_split test (drop (first_len test xs) xs) ≡ [] ∷ parts_after test (drop (first_len test xs) xs)
split_rest test [] = refl
split_rest test (x ∷ xs) =
    ⊎_elim
    (λ (passes : test x ≡ true). (rw (passes, passes) refl))
    (λ (fails : test x ≡ false). (rw (fails, one-add) (split_rest test xs)))
    (cases_Bool (test x))

-- elements that fail the test are one part
pub split_none : (test : ℕ → Bool) (run : List ℕ) → AllByRecursion (λ x. test x ≡ false) run → slice_split test run ≡ run ∷ []
split_none test [] none = refl
split_none test (x ∷ run) none = rw (none.0) (ap (onto_first x) (split_none test run none.1))

-- and so are those up to the first that passes
pub split_at : (test : ℕ → Bool) (run : List ℕ) (x : ℕ) (rest : List ℕ) → AllByRecursion (λ y. test y ≡ false) run → test x ≡ true → slice_split test (run ++ x ∷ rest) ≡ run ∷ slice_split test rest
split_at test [] x rest none passes = rw passes refl
split_at test (y ∷ run) x rest none passes = rw (none.0) (ap (onto_first y) (split_at test run x rest none.1 passes))
