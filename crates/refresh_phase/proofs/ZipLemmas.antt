-- Two lists of one length taken together.
use Rattle.std.proofs.Common.{◌≡◌, ℕ, ◌<◌, List, length, get_or, map, ◌∙◌, ap, arith}
use Rattle.std.specs.List.{zip}
use Rattle.std.proofs.lemmas.List.{length-map, get_or-map}
use Rattle.std.proofs.lemmas.Slice.Zip.{get_or-zip, length-zip}

module _ {X Y : Type 0} where
  pub length_zip : (xs : List X) (ys : List Y) → length xs ≡ length ys → length (zip xs ys) ≡ length xs
  length_zip xs ys same = length-zip xs ys ∙ (omega arith)

  pub zip_at : (xs : List X) (ys : List Y) (k : ℕ) (x : X) (y : Y) → length xs ≡ length ys → k < length xs → get_or (zip xs ys) k (x, y) ≡ (get_or xs k x, get_or ys k y)
  zip_at xs ys k x y same within = get_or-zip xs ys k (x, y) within (omega arith)

  pub length_zipped : {Z : Type 0} (f : X × Y → Z) (xs : List X) (ys : List Y) → length xs ≡ length ys → length (map f (zip xs ys)) ≡ length xs
  length_zipped f xs ys same = length-map (zip xs ys) f ∙ length_zip xs ys same

  pub zipped_at : {Z : Type 0} (f : X × Y → Z) (xs : List X) (ys : List Y) (k : ℕ) (z : Z) (x : X) (y : Y) → length xs ≡ length ys → k < length xs → get_or (map f (zip xs ys)) k z ≡ f (get_or xs k x, get_or ys k y)
  zipped_at f xs ys k z x y same within =
      let long = length_zip xs ys same in
      get_or-map f (zip xs ys) k (x, y) z (omega arith) ∙ ap f (zip_at xs ys k x y same within)
