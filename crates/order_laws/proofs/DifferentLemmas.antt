-- Lists whose elements differ.
use Rattle.std.proofs.Common.{◌≡◌, ℕ, zero, suc, ◌<◌, ◌≤◌, List, [], ◌∷◌, length, get_or, refl, sym, inl, inr, subst, arith}
use Rattle.std.specs.List.{Contains, remove}
use Rattle.std.specs.List.Sorted.{IsPermutation}
use Rattle.std.proofs.lemmas.List.Edits.{length-remove}
use Rattle.std.proofs.lemmas.List.Sorted.{IsPermutation-refl, IsPermutation-cons, IsPermutation-trans, IsPermutation-remove}
use Rattle.order_laws.specs.OrderLaws.{AreDifferent, DifferentInAnyOrder, DifferentAreFew}
use Rattle.order_laws.proofs.OrderLemmas.{In}
use Rattle.order_laws.proofs.ElementLemmas.{in_at_place, in_from_contains, contains_from_in}
use Rattle.order_laws.proofs.PermutationLemmas.{along_permutation, turned}
use Rattle.order_laws.proofs.RisingLemmas.{permuted_in}

-- no element is among those after it
abbrev Apart : {X : Type 0} → List X → Type 0
Apart [] = Unit {0}
Apart (x ∷ xs) = (In x xs → ⊥) × Apart xs

differ_from : {X : Type 0} (x : X) (ys : List X) → ((k : ℕ) (d : X) → k < length ys → (x ≡ get_or ys k d) → ⊥) → In x ys → ⊥
differ_from x [] h i = i
differ_from x (y ∷ ys) h (inl e) = h 0 y (omega arith) (sym e)
differ_from x (y ∷ ys) h (inr i) = differ_from x ys (λ k d within. h (suc k) d (omega arith)) i

apart_from_different : {X : Type 0} (xs : List X) → AreDifferent xs → Apart xs
apart_from_different [] h = tt
apart_from_different (x ∷ xs) h = (
  differ_from x xs (λ k d within. h zero (suc k) d (omega arith) (omega arith)),
  apart_from_different xs (λ i j d less within. h (suc i) (suc j) d (omega arith) (omega arith)),
)

different_from_apart : {X : Type 0} (xs : List X) → Apart xs → AreDifferent xs
different_from_apart [] a i j d less within = absurd (omega arith)
different_from_apart (x ∷ xs) a i zero d less within = absurd (omega arith)
different_from_apart {X} (x ∷ xs) a zero (suc j) d less within =
    λ e. a.0 (let P : X → Type 0 = λ v. In v xs in subst P (sym e) (in_at_place xs j d (omega arith)))
different_from_apart (x ∷ xs) a (suc i) (suc j) d less within = different_from_apart xs a.1 i j d (omega arith) (omega arith)

apart_skip : {X : Type 0} (x : X) (xs ys : List X) → IsPermutation ys xs → (Apart xs → Apart ys) → Apart (x ∷ xs) → Apart (x ∷ ys)
apart_skip x xs ys back h a = (λ i. a.0 (permuted_in ys xs x back i), h a.1)

apart_turn : {X : Type 0} (x y : X) (xs : List X) → Apart (x ∷ y ∷ xs) → Apart (y ∷ x ∷ xs)
apart_turn x y xs a = (
  λ there. elim there [ inl same ↦ a.0 (inl (sym same)) | inr rest ↦ a.1.0 rest ],
  (λ there. a.0 (inr there), a.1.1),
)

apart_in_any_order : {X : Type 0} (xs ys : List X) → IsPermutation xs ys → Apart xs → Apart ys
apart_in_any_order {X} xs ys same =
    (along_permutation (λ (us vs : List X). IsPermutation vs us × (Apart us → Apart vs))
    (λ us. (IsPermutation-refl us, λ a. a)) (λ x us vs h. (IsPermutation-cons x vs us h.0, apart_skip x us vs h.0 h.1))
    (λ x y us. (turned y x us, apart_turn x y us))
    (λ us vs ws h k. (IsPermutation-trans ws vs us k.0 h.0, λ a. k.1 (h.1 a))) xs ys same).1

pub different_in_any_order : {X : Type 0} → DifferentInAnyOrder X
different_in_any_order xs ys same h = different_from_apart ys (apart_in_any_order xs ys same (apart_from_different xs h))

apart_are_few : {X : Type 0} (ys xs : List X) → Apart ys → ((y : X) → In y ys → In y xs) → length ys ≤ length xs
apart_are_few [] xs a all = omega arith
apart_are_few {X} (y ∷ ys) xs a all =
    let at = contains_from_in xs y (all y (inl refl)) in
    let i = at.0 in
    let within : i < length xs = at.1 in
    let others = IsPermutation-remove xs i y within (sym at.2) in
    let rest = apart_are_few ys (remove xs i) a.1 (λ z h. elim (permuted_in xs (y ∷ remove xs i) z others (all z (inr h))) [
      | inl same ↦ absurd (a.0 (let P : X → Type 0 = λ v. In v ys in subst P (sym same) h))
      | inr there ↦ there
    ]) in
    let long = length-remove xs i within in
    omega arith

pub different_are_few : {X : Type 0} → DifferentAreFew X
different_are_few xs ys different all =
    apart_are_few ys xs (apart_from_different ys different) (λ y i. in_from_contains xs y (all y (contains_from_in ys y i)))
