-- Elements of a list, and of two lists side by side.
use Rattle.std.proofs.Common.{◌≡◌, ℕ, zero, suc, ◌<◌, List, [], ◌∷◌, length, get_or, map, inl, inr, ◌⊎◌, refl, ap, subst, arith}
use Rattle.std.specs.List.{AllZip, Contains}

pub contains_more : {X : Type 0} (y : X) (ys : List X) (x : X) → Contains ys x → Contains (y ∷ ys) x
contains_more y ys x h = (suc h.0, (let within : h.0 < length ys = h.1 in omega arith), h.2)

pub head_or_rest : {X : Type 0} (y : X) (ys : List X) (x : X) → Contains (y ∷ ys) x → (y ≡ x) ⊎ Contains ys x
head_or_rest y ys x (zero, within, at) = inl at
head_or_rest y ys x (suc k, within, at) = inr (k, omega arith, at)

pub map-map : {X Y Z : Type 0} (f : Y → Z) (g : X → Y) (xs : List X) → map f (map g xs) ≡ map (λ x. f (g x)) xs
map-map f g [] = refl
map-map f g (x ∷ xs) = ap (λ l. f (g x) ∷ l) (map-map f g xs)

-- what stands at one place of both lists
pub zip_at : {X Y : Type 0} (R : X → Y → Type 0) (xs : List X) (ys : List Y) (k : ℕ) (x : X) (y : Y) → AllZip R xs ys → k < length ys → (k < length xs) × R (get_or xs k x) (get_or ys k y)
zip_at R [] [] k d e all within = absurd (omega arith)
zip_at R [] (y ∷ ys) k d e all within = absurd all
zip_at R (x ∷ xs) [] k d e all within = absurd all
zip_at R (x ∷ xs) (y ∷ ys) zero d e all within = (omega arith, all.0)
zip_at R (x ∷ xs) (y ∷ ys) (suc k) d e all within =
    let rest = zip_at R xs ys k d e all.1 (omega arith) in
    let inside : k < length xs = rest.0 in
    (omega arith, rest.1)

-- to an element of the one list belongs one of the other
pub zip_second : {X Y : Type 0} (R : X → Y → Type 0) (xs : List X) (ys : List Y) (y : Y) → AllZip R xs ys → Contains ys y → (x : X) × Contains xs x × R x y
zip_second R [] [] y all h = absurd (omega (arith, h.1))
zip_second R [] (b ∷ bs) y all h = absurd all
zip_second R (a ∷ more) [] y all h = absurd all
zip_second R (a ∷ more) (b ∷ bs) y all h =
    elim (head_or_rest b bs y h) [
      | inl is ↦ (a, (0, omega arith, refl), subst (R a) is all.0)
      | inr rest ↦ (let found = zip_second R more bs y all.1 rest in (found.0, contains_more a more found.0 found.1, found.2))
    ]

pub zip_first : {X Y : Type 0} (R : X → Y → Type 0) (xs : List X) (ys : List Y) (x : X) → AllZip R xs ys → Contains xs x → (y : Y) × Contains ys y × R x y
zip_first R [] ys x all h = absurd (omega (arith, h.1))
zip_first R (a ∷ more) [] x all h = absurd all
zip_first R (a ∷ more) (b ∷ bs) x all h =
    elim (head_or_rest a more x h) [
      | inl is ↦ (b, (0, omega arith, refl), subst (λ v. R v b) is all.0)
      | inr rest ↦ (let found = zip_first R more bs x all.1 rest in (found.0, contains_more b bs found.0 found.1, found.2))
    ]
