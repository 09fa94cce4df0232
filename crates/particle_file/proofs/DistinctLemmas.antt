-- Sorted numbers are distinct exactly where no two neighbours are equal.
use Rattle.std.proofs.Common.{◌≡◌, ◌≢◌, ℕ, ◌+◌, ◌<◌, ◌≤◌, eqb, List, [], ◌∷◌, ◌++◌, length, take, set, get_or, map, nat_cmp, sym, ap, ◌∙◌, arith}
use Rattle.std.specs.Prelude.{nat_eq, IsPermutation, IsSorted}
use Rattle.std.specs.Cmp.{unsigned_Decides}
use Rattle.std.specs.List.{IsDistinct}
use Rattle.std.specs.List.Sorted.{IsNonDecreasing}
use Rattle.std.proofs.lemmas.Bool.Decides.{nat_tests}
use Rattle.std.proofs.lemmas.List.{get_or_default, take_more, take_more_set, map-append}
use Rattle.std.proofs.lemmas.List.Sorted.{IsNonDecreasingBy-from_sort, IsPermutation-sym}
use Rattle.std.proofs.lemmas.Map.Keys.{IsDistinct-IsPermutation}
use Rattle.pf_model.specs.Particle.{Particle}
use Rattle.std.proofs.lemmas.Map.Made.{AllPairs-from_IsDistinct, IsDistinct-from_AllPairs}

eqb_flip : (a b : ℕ) → eqb a b ≡ eqb b a
eqb_flip a b = grind (arith, nat_tests)

-- a later number is greater where neighbours differ
rises : (xs : List ℕ) → IsNonDecreasing xs → ((k : ℕ) → k + 1 < length xs → get_or xs k 0 ≢ get_or xs (k + 1) 0) → (i j : ℕ) (d : ℕ) → i < j → j < length xs → get_or xs i d ≢ get_or xs j d
rises xs up apart i j d before inside = λ same.
    let first : get_or xs i 0 ≤ get_or xs (i + 1) 0 = up i (i + 1) 0 (omega arith) (omega arith) in
    let rest : get_or xs (i + 1) 0 ≤ get_or xs j 0 = up (i + 1) j 0 (omega arith) (omega arith) in
    let at_i = get_or_default xs i d 0 (omega arith) in
    let at_j = get_or_default xs j d 0 inside in
    apart i (omega arith) (omega arith)

pub distinct_from_neighbours : (xs : List ℕ) → IsSorted nat_cmp xs → ((k : ℕ) → k + 1 < length xs → get_or xs k 0 ≢ get_or xs (k + 1) 0) → IsDistinct nat_eq xs
distinct_from_neighbours xs sorted apart = IsDistinct-from_AllPairs unsigned_Decides xs (rises xs (IsNonDecreasingBy-from_sort (λ x. x) xs sorted) apart)

pub not_distinct : (xs : List ℕ) (i j : ℕ) → i < j → j < length xs → get_or xs i 0 ≡ get_or xs j 0 → IsDistinct nat_eq xs → ⊥
not_distinct xs i j before inside same distinct = AllPairs-from_IsDistinct unsigned_Decides xs distinct i j 0 before inside same

pub distinct_back : (xs ys : List ℕ) → IsPermutation xs ys → IsDistinct nat_eq ys → IsDistinct nat_eq xs
distinct_back xs ys moved distinct = IsDistinct-IsPermutation nat_eq eqb_flip ys xs (IsPermutation-sym xs ys moved) distinct

pub distinct_on : (xs ys : List ℕ) → IsPermutation xs ys → IsDistinct nat_eq xs → IsDistinct nat_eq ys
distinct_on xs ys moved distinct = IsDistinct-IsPermutation nat_eq eqb_flip xs ys moved distinct

-- one id more
pub ids-more : (ps : List Particle) (ids : List ℕ) (i : ℕ) (p : Particle) (id : ℕ) → i < length ps → length ids ≡ length ps → p ≡ get_or ps i p → p.id ≡ id
    → take i ids ≡ map (λ q. q.id) (take i ps) → take (i + 1) (set ids i id) ≡ map (λ q. q.id) (take (i + 1) ps)
ids-more ps ids i p id inside many is id_is so_far =
    take_more_set ids i id (omega arith)
    ∙ ap (λ t. t ++ id ∷ []) so_far ∙ ap (λ n. map (λ q. q.id) (take i ps) ++ n ∷ []) (sym id_is ∙ ap (λ q. q.id) is)
    ∙ sym (map-append (λ (q : Particle). q.id) (take i ps) (get_or ps i p ∷ []))
    ∙ ap (map (λ q. q.id)) (sym (take_more ps i p inside))
