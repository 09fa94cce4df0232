-- Numbers that stand in a list once each are all numbers below their bound, in some order.
use Rattle.std.proofs.Common.{◌≡◌, ℕ, zero, suc, ◌+◌, ◌≤◌, List, [], ◌∷◌, ◌++◌, refl, sym, ap, subst, ◌∙◌, arith}
use Rattle.std.specs.List.{range_with_len}
use Rattle.std.specs.List.Sorted.{IsPermutation}
use mathlib.Core.Logic.{dite}
use native.Mathlib.Decide.{ℕ_discrete}
use Rattle.std.proofs.lemmas.List.{map-id}
use Rattle.std.proofs.lemmas.List.FromFn.{map-range_with_len_more}
use Rattle.std.proofs.lemmas.List.Sums.{sum_by-append, sum_by-cons}
use Rattle.std.proofs.lemmas.List.Sorted.{IsPermutation-refl, IsPermutation-trans, IsPermutation-middle, IsPermutation-sym, IsPermutation-to_front, IsPermutation-cons}
use Rattle.claim_board.specs.Once.{times, HasEachOnce, NumbersOnceStandInSomeOrder}
use Rattle.claim_board.proofs.Numbers.{is_it, same_is_it, other_is_not}

-- what stands before and after a number in a list
record IsParted (x : ℕ) (xs : List ℕ) : Type 0 where
  pub before : List ℕ
  pub after : List ℕ
  pub whole : xs ≡ before ++ x ∷ after

parted : (x : ℕ) (xs : List ℕ) → 1 ≤ times x xs → IsParted x xs
parted x [] h = let nil : times x [] ≡ 0 = refl in absurd (omega (arith, h, nil))
parted x (y ∷ xs) h = dite (ℕ_discrete y x)
    (λ is. record { before = []; after = xs; whole = ap (λ z. z ∷ xs) is })
    (λ apart.
    let e : times x (y ∷ xs) ≡ is_it x y + times x xs = sum_by-cons (is_it x) y xs in
    let not = other_is_not x y apart in
    let rest = parted x xs (omega (arith, h, e, not)) in
    record { before = y ∷ rest.before; after = rest.after; whole = ap (λ l. y ∷ l) rest.whole })

-- how often y stands in a list with x in its midst
times_in_midst : (y x : ℕ) (a b : List ℕ) → times y (a ++ x ∷ b) ≡ times y (a ++ b) + is_it y x
times_in_midst y x a b =
    let all : times y (a ++ x ∷ b) ≡ times y a + times y (x ∷ b) = sum_by-append (is_it y) a (x ∷ b) in
    let second : times y (x ∷ b) ≡ is_it y x + times y b = sum_by-cons (is_it y) x b in
    let both : times y (a ++ b) ≡ times y a + times y b = sum_by-append (is_it y) a b in
    omega (arith, all, second, both)

-- without the last number
once_less : (n : ℕ) (a b : List ℕ) → HasEachOnce (suc n) (a ++ n ∷ b) → HasEachOnce n (a ++ b)
once_less n a b once = record {
  each = λ x h. let e = times_in_midst x n a b in let not = other_is_not x n (λ is. omega (arith, h, is)) in let one = once.each x (omega (arith, h)) in omega (arith, e, not, one);
  others = λ x h. let e = times_in_midst x n a b in dite (ℕ_discrete n x)
      (λ is. let one = once.each x (omega (arith, is)) in let here : is_it x n ≡ 1 = ap (is_it x) is ∙ same_is_it x in omega (arith, e, one, here))
      (λ apart. let none = once.others x (omega (arith, h, apart)) in omega (arith, e, none));
}

range_more : (n : ℕ) → range_with_len 0 (suc n) ≡ range_with_len 0 n ++ n ∷ []
range_more n =
    let next : suc n ≡ n + 1 = omega arith in
    ap (range_with_len 0) next
    ∙ sym (map-id (range_with_len 0 (n + 1))) ∙ map-range_with_len_more (λ (k : ℕ). k) 0 n n (omega arith) ∙ ap (λ l. l ++ n ∷ []) (map-id (range_with_len 0 n))

pub numbers_once_stand_in_some_order : NumbersOnceStandInSomeOrder
numbers_once_stand_in_some_order zero [] once = IsPermutation-refl []
numbers_once_stand_in_some_order zero (y ∷ ys) once =
    let e : times y (y ∷ ys) ≡ is_it y y + times y ys = sum_by-cons (is_it y) y ys in
    let one = same_is_it y in
    let none = once.others y (omega arith) in
    absurd (omega (arith, e, one, none))
numbers_once_stand_in_some_order (suc n) xs once =
    let one = once.each n (omega arith) in
    let parts = parted n xs (omega (arith, one)) in
    let others : List ℕ = parts.before ++ parts.after in
    let rest = numbers_once_stand_in_some_order n others (once_less n parts.before parts.after (subst (HasEachOnce (suc n)) parts.whole once)) in
    subst (λ l. IsPermutation l (range_with_len 0 (suc n))) (sym parts.whole)
    (subst (IsPermutation (parts.before ++ n ∷ parts.after)) (sym (range_more n))
    (IsPermutation-trans (parts.before ++ n ∷ parts.after) (n ∷ others) (range_with_len 0 n ++ n ∷ [])
    (IsPermutation-middle parts.before n parts.after)
    (IsPermutation-trans (n ∷ others) (n ∷ range_with_len 0 n) (range_with_len 0 n ++ n ∷ [])
    (IsPermutation-cons n others (range_with_len 0 n) rest)
    (IsPermutation-sym (range_with_len 0 n ++ n ∷ []) (n ∷ range_with_len 0 n) (IsPermutation-to_front (range_with_len 0 n) n)))))
