-- Lists that are maps of one another, element by element.
use Rattle.std.proofs.Common.{◌≡◌, ℕ, suc, ◌<◌, List, [], ◌∷◌, ◌++◌, length, get_or, take, map, refl, sym, ◌∙◌, ap, arith}
use Rattle.std.specs.List.{range_with_len}
use Rattle.std.proofs.Math.Seq.{take-append_seam}
use Rattle.std.proofs.lemmas.List.{get_or-map, length-map}
use Rattle.std.proofs.lemmas.List.FromFn.{get_or-range_with_len, length-range_with_len}

module _ {X Y Z : Type 0} (f : X → Z) (g : Y → Z) where
  pub maps_agree : (xs : List X) (ys : List Y) → length xs ≡ length ys → ((k : ℕ) (x : X) (y : Y) → k < length xs → f (get_or xs k x) ≡ g (get_or ys k y)) → map f xs ≡ map g ys
  maps_agree [] [] long each = refl
  maps_agree [] (y ∷ ys) long each = absurd (omega arith)
  maps_agree (x ∷ xs) [] long each = absurd (omega arith)
  maps_agree (x ∷ xs) (y ∷ ys) long each =
      (λ i. each 0 x y (omega arith) i ∷ maps_agree xs ys (omega arith) (λ k x' y' within. each (suc k) x' y' (omega arith)) i)

  pub maps_long : (xs : List X) (ys : List Y) → map f xs ≡ map g ys → length xs ≡ length ys
  maps_long xs ys same = sym (length-map xs f) ∙ ap length same ∙ length-map ys g

  pub at_maps : (xs : List X) (ys : List Y) → map f xs ≡ map g ys → (k : ℕ) (x : X) (y : Y) → k < length xs → f (get_or xs k x) ≡ g (get_or ys k y)
  at_maps xs ys same k x y within =
      let long = maps_long xs ys same in
      sym (get_or-map f xs k x (g y) within) ∙ ap (λ zs. get_or zs k (g y)) same ∙ get_or-map g ys k y (g y) (omega arith)

-- a map that is a range
module _ {X : Type 0} (f : X → ℕ) (xs : List X) (n : ℕ) (same : map f xs ≡ range_with_len 0 n) where
  pub as_many : length xs ≡ n
  as_many = sym (length-map xs f) ∙ ap length same ∙ length-range_with_len 0 n

  pub at_number : (k : ℕ) (x : X) → k < length xs → f (get_or xs k x) ≡ k
  at_number k x within =
      let long = as_many in
      sym (get_or-map f xs k x 0 within) ∙ ap (λ (zs : List ℕ). get_or zs k 0) same ∙ get_or-range_with_len 0 n k 0 (omega arith) ∙ omega arith

pub first_of : {X : Type 0} (xs : List X) → 0 < length xs → X
first_of [] some = absurd (omega arith)
first_of (x ∷ xs) some = x

-- what is written back into a vector of as many elements
pub written : {X : Type 0} (n : ℕ) (ys zs : List X) → n ≡ length ys → take n (ys ++ zs) ≡ ys
written n ys zs e = ap (λ k. take k (ys ++ zs)) e ∙ take-append_seam ys zs
