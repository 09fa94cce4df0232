-- Inner products of lists of whole numbers.
use Rattle.std.specs.Prelude.{ℤ, pos, ◌+ℤ◌, ◌*ℤ◌, List, [], ◌∷◌}

-- the sum of the products, place by place
abbrev pub inner_product : List ℤ → List ℤ → ℤ
inner_product [] ys = pos 0
inner_product (x ∷ xs) [] = pos 0
inner_product (x ∷ xs) (y ∷ ys) = x *ℤ y +ℤ inner_product xs ys
