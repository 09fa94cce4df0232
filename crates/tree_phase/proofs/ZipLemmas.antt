-- Two lists taken together.
use Rattle.std.proofs.Common.{◌≡◌, ℕ, zero, suc, ◌<◌, List, [], ◌∷◌, ◌++◌, length, get_or, map, refl, ap, arith}
use Rattle.std.specs.List.{zip}

module _ {X Y : Type 0} where
  pub zip_push : (xs : List X) (ys : List Y) (x : X) (y : Y) → length xs ≡ length ys → zip (xs ++ x ∷ []) (ys ++ y ∷ []) ≡ zip xs ys ++ (x, y) ∷ []
  zip_push [] [] x y same = refl
  zip_push [] (w ∷ ws) x y same = absurd (omega arith)
  zip_push (v ∷ vs) [] x y same = absurd (omega arith)
  zip_push (v ∷ vs) (w ∷ ws) x y same = ap (λ (l : List (X × Y)). (v, w) ∷ l) (zip_push vs ws x y (omega arith))

  pub zipped_at : {Z : Type 0} (f : X × Y → Z) (xs : List X) (ys : List Y) (k : ℕ) (z : Z) (x : X) (y : Y) → length xs ≡ length ys → k < length xs → get_or (map f (zip xs ys)) k z ≡ f (get_or xs k x, get_or ys k y)
  zipped_at f [] ys k z x y same within = absurd (omega arith)
  zipped_at f (v ∷ vs) [] k z x y same within = absurd (omega arith)
  zipped_at f (v ∷ vs) (w ∷ ws) zero z x y same within = refl
  zipped_at f (v ∷ vs) (w ∷ ws) (suc k) z x y same within = zipped_at f vs ws k z x y (omega arith) (omega arith)

  pub length_zipped : {Z : Type 0} (f : X × Y → Z) (xs : List X) (ys : List Y) → length xs ≡ length ys → length (map f (zip xs ys)) ≡ length xs
  length_zipped f [] [] same = refl
  length_zipped f [] (w ∷ ws) same = absurd (omega arith)
  length_zipped f (v ∷ vs) [] same = absurd (omega arith)
  length_zipped f (v ∷ vs) (w ∷ ws) same = ap suc (length_zipped f vs ws (omega arith))
