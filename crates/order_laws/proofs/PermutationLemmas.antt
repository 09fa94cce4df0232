-- What holds along a permutation of a list.
use Rattle.std.proofs.Common.{◌≡◌, ℕ, zero, suc, ◌<◌, Bool, true, false, cond, List, [], ◌∷◌, ◌++◌, ◌||◌, length, get_or, set, inl, inr, refl, subst, arith}
use Rattle.std.specs.List.{filter, flat_map, swap}
use Rattle.std.specs.List.Sorted.{IsPermutation}
use Rattle.std.proofs.lemmas.List.Sorted.{IsPermutation-refl, IsPermutation-cons, IsPermutation-trans, IsPermutation-swap, IsPermutation-keeps, IsPermutation-sym, IsPermutation-middle, IsPermutation-append, IsPermutation-append_left, IsPermutation-append_right, IsPermutation-append_comm}
use Rattle.std.proofs.lemmas.List.{append_assoc}
use Rattle.order_laws.specs.OrderLaws.{PartsKeepPermutations}
use Rattle.order_laws.proofs.OrderLemmas.{In}

-- a relation of lists that is reflexive and transitive, and goes under a head and over an exchange of two heads
module _ {X : Type 0} (R : List X → List X → Type 0) (same : (xs : List X) → R xs xs)
    (skip : (x : X) (xs ys : List X) → R xs ys → R (x ∷ xs) (x ∷ ys))
    (turn : (x y : X) (xs : List X) → R (x ∷ y ∷ xs) (y ∷ x ∷ xs))
    (chain : (xs ys zs : List X) → R xs ys → R ys zs → R xs zs) where
  to_head : (l : List X) (j : ℕ) (x d : X) → j < length l → R (x ∷ l) (get_or l j d ∷ set l j x)
  to_head [] j x d h = absurd (omega arith)
  to_head (y ∷ l) zero x d h = turn x y l
  to_head (y ∷ l) (suc j) x d h =
      chain _ _ _ (turn x y l) (chain _ _ _ (skip y _ _ (to_head l j x d (omega arith))) (turn y (get_or l j d) (set l j x)))

  exchanged : (l : List X) (i j : ℕ) (d : X) → i < length l → j < length l → R l (set (set l i (get_or l j d)) j (get_or l i d))
  exchanged [] i j d p q = absurd (omega arith)
  exchanged (x ∷ l) zero zero d p q = same (x ∷ l)
  exchanged (x ∷ l) zero (suc j) d p q = to_head l j x d (omega arith)
  exchanged (x ∷ l) (suc i) zero d p q = to_head l i x d (omega arith)
  exchanged (x ∷ l) (suc i) (suc j) d p q = skip x _ _ (exchanged l i j d (omega arith) (omega arith))

  swapped : (l : List X) (i j : ℕ) → i < length l → j < length l → R l (swap l i j)
  swapped [] i j p q = same []
  swapped (x ∷ l) i j p q = exchanged (x ∷ l) i j x p q

  pub along_permutation : (xs ys : List X) → IsPermutation xs ys → R xs ys
  along_permutation xs = IsPermutation-keeps xs (R xs) (same xs) (λ l i j p q h. chain xs l _ h (swapped l i j p q))

-- two heads exchanged
pub turned : {X : Type 0} (x y : X) (xs : List X) → IsPermutation (x ∷ y ∷ xs) (y ∷ x ∷ xs)
turned x y xs = IsPermutation-swap (x ∷ y ∷ xs) (y ∷ x ∷ xs) 0 1 (omega arith) (omega arith) refl

kept_head : {X : Type 0} (b : Bool) (x : X) (xs ys : List X) → IsPermutation xs ys → IsPermutation (cond b (x ∷ xs) xs) (cond b (x ∷ ys) ys)
kept_head true x xs ys h = IsPermutation-cons x xs ys h
kept_head false x xs ys h = h

kept_turned : {X : Type 0} (a b : Bool) (x y : X) (xs : List X) → IsPermutation (cond a (x ∷ cond b (y ∷ xs) xs) (cond b (y ∷ xs) xs)) (cond b (y ∷ cond a (x ∷ xs) xs) (cond a (x ∷ xs) xs))
kept_turned true true x y xs = turned x y xs
kept_turned true false x y xs = IsPermutation-refl (x ∷ xs)
kept_turned false true x y xs = IsPermutation-refl (y ∷ xs)
kept_turned false false x y xs = IsPermutation-refl xs

-- what a test keeps of both
pub IsPermutation-filter : {X : Type 0} (test : X → Bool) (xs ys : List X) → IsPermutation xs ys → IsPermutation (filter test xs) (filter test ys)
IsPermutation-filter {X} test xs ys h =
    along_permutation (λ (us vs : List X). IsPermutation (filter test us) (filter test vs))
    (λ us. IsPermutation-refl (filter test us))
    (λ x us vs p. kept_head (test x) x (filter test us) (filter test vs) p)
    (λ x y us. kept_turned (test x) (test y) x y (filter test us))
    (λ us vs ws p q. IsPermutation-trans (filter test us) (filter test vs) (filter test ws) p q)
    xs ys h

parts_turned : {X Y : Type 0} (f : X → List Y) (x y : X) (xs : List X) → IsPermutation (flat_map f (x ∷ y ∷ xs)) (flat_map f (y ∷ x ∷ xs))
parts_turned {Y = Y} f x y xs =
    let rest : List Y = flat_map f xs in
    subst (λ (l : List Y). IsPermutation l (f y ++ (f x ++ rest))) (append_assoc (f x) (f y) rest)
    (subst (IsPermutation ((f x ++ f y) ++ rest)) (append_assoc (f y) (f x) rest)
    (IsPermutation-append_left rest (f x ++ f y) (f y ++ f x) (IsPermutation-append_comm (f x) (f y))))

-- what is made of each element of both
IsPermutation-flat_map : {X Y : Type 0} (f : X → List Y) (xs ys : List X) → IsPermutation xs ys → IsPermutation (flat_map f xs) (flat_map f ys)
IsPermutation-flat_map {X} f xs ys h =
    along_permutation (λ (us vs : List X). IsPermutation (flat_map f us) (flat_map f vs))
    (λ us. IsPermutation-refl (flat_map f us))
    (λ x us vs p. IsPermutation-append_right (f x) (flat_map f us) (flat_map f vs) p)
    (λ x y us. parts_turned f x y us)
    (λ us vs ws p q. IsPermutation-trans (flat_map f us) (flat_map f vs) (flat_map f ws) p q)
    xs ys h

pub each_permutes : {X Y : Type 0} (f g : X → List Y) → ((x : X) → IsPermutation (f x) (g x)) → (xs : List X) → IsPermutation (flat_map f xs) (flat_map g xs)
each_permutes f g each [] = IsPermutation-refl []
each_permutes f g each (x ∷ xs) = IsPermutation-append (f x) (g x) (flat_map f xs) (flat_map g xs) (each x) (each_permutes f g each xs)

pub parts_keep_permutations : {X Y : Type 0} → PartsKeepPermutations X Y
parts_keep_permutations f g xs ys each h =
    IsPermutation-trans (flat_map f xs) (flat_map f ys) (flat_map g ys) (IsPermutation-flat_map f xs ys h) (each_permutes f g each ys)

-- two tests, never both, keep together what either keeps
either_kept : {X : Type 0} (a b : Bool) (x : X) (all us vs : List X) → (a ≡ true → b ≡ true → ⊥) → IsPermutation all (us ++ vs) → IsPermutation (cond (a || b) (x ∷ all) all) (cond a (x ∷ us) us ++ cond b (x ∷ vs) vs)
either_kept true true x all us vs apart h = absurd (apart refl refl)
either_kept true false x all us vs apart h = IsPermutation-cons x all (us ++ vs) h
either_kept false true x all us vs apart h = IsPermutation-trans (x ∷ all) (x ∷ (us ++ vs)) (us ++ x ∷ vs) (IsPermutation-cons x all (us ++ vs) h) (IsPermutation-sym (us ++ x ∷ vs) (x ∷ (us ++ vs)) (IsPermutation-middle us x vs))
either_kept false false x all us vs apart h = h

pub either_filter : {X : Type 0} (p q : X → Bool) (xs : List X) → ((x : X) → In x xs → p x ≡ true → q x ≡ true → ⊥) → IsPermutation (filter (λ x. p x || q x) xs) (filter p xs ++ filter q xs)
either_filter p q [] apart = IsPermutation-refl []
either_filter p q (x ∷ xs) apart =
    either_kept (p x) (q x) x (filter (λ y. p y || q y) xs) (filter p xs) (filter q xs) (apart x (inl refl)) (either_filter p q xs (λ y i. apart y (inr i)))
