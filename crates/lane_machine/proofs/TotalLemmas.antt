-- What totals keep, and what order doesn't matter to.
use Rattle.std.proofs.Common.{◌≡◌, ℕ, ◌^◌, ◌<◌, ◌≤◌, ℤ, to_z, of_z, List, [], ◌∷◌, get_or, map, refl, sym, ap, subst, ◌∙◌, arith, fold}
use Rattle.std.specs.List.{All}
use Rattle.std.proofs.lemmas.List.Elements.{All-map}
use Rattle.kern_types.specs.declared.force_var.ForceVar.{ForceVar}
use Rattle.std.proofs.lemmas.Int.{ints, int_max_is, int_min_is}
use Rattle.std.specs.Int.{w128, int_max, int_min}
use Rattle.pf_geom.specs.declared.axis.Axis.{Axis}
use Rattle.pf_geom.specs.declared.axis.Axis.TheVariants.{X, Y, Z}
use Rattle.kern_tree.specs.declared.kernel.Combine.{Combine}
use Rattle.kern_tree.specs.declared.kernel.Combine.TheVariants.{Sum, Max, Min}
use Rattle.lane_machine.specs.Total.{Summed, IsOfFew, AreFew, along, with_along, joined, nothing}

-- a total of few is passed to a function as it is
pub few_passed : (count : ℕ) (total : ℤ) → count < 2 ^ 61 → IsOfFew count total → IsOfFew count (to_z w128 (of_z w128 total))
few_passed count total small few = let same : to_z w128 (of_z w128 total) ≡ total = omega (arith, ints) in subst (IsOfFew count) (sym same) few

of_at_least : (n m : ℕ) (total : ℤ) → n ≤ m → IsOfFew n total → IsOfFew m total
of_at_least n m total h few = omega arith

pub few_at_least : (n m : ℕ) (t : Summed) → n ≤ m → AreFew n t → AreFew m t
few_at_least n m t h few = record {
  x_few = of_at_least n m t.x h few.x_few;
  y_few = of_at_least n m t.y h few.y_few;
  z_few = of_at_least n m t.z h few.z_few;
}

pub all_at_least : (n m : ℕ) (ts : List Summed) → n ≤ m → All (AreFew n) ts → All (AreFew m) ts
all_at_least n m ts h all = λ k d within. few_at_least n m (get_or ts k d) h (all k d within)

-- one axis after another
pub same_combine : (axis : Axis) (t : Summed) (a : ℤ) → (with_along axis t a).combine ≡ t.combine
same_combine X t a = refl
same_combine Y t a = refl
same_combine Z t a = refl

pub with_own : (axis : Axis) (t : Summed) → with_along axis t (along axis t) ≡ t
with_own X t = refl
with_own Y t = refl
with_own Z t = refl

max_swapped : (t x y : ℤ) → int_max (int_max t x) y ≡ int_max (int_max t y) x
max_swapped t x y = omega (arith, ints, int_max_is)

min_swapped : (t x y : ℤ) → int_min (int_min t x) y ≡ int_min (int_min t y) x
min_swapped t x y = omega (arith, ints, int_min_is)

-- of two numbers either can be first
swapped : (c : Combine) (t x y : ℤ) → joined c (joined c t x) y ≡ joined c (joined c t y) x
swapped Sum t x y = omega (arith, ints)
swapped Max t x y = max_swapped t x y
swapped Min t x y = min_swapped t x y

module _ (c : Combine) where
  one_past : (t x : ℤ) (ys : List ℤ) → fold (joined c) (joined c t x) ys ≡ joined c (fold (joined c) t ys) x
  one_past t x [] = refl
  one_past t x (y ∷ ys) = ap (λ a. fold (joined c) a ys) (swapped c t x y) ∙ one_past (joined c t y) x ys

  pub past : (t : ℤ) (xs ys : List ℤ) → fold (joined c) (fold (joined c) t xs) ys ≡ fold (joined c) (fold (joined c) t ys) xs
  past t [] ys = refl
  past t (x ∷ xs) ys = past (joined c t x) xs ys ∙ ap (λ a. fold (joined c) a xs) (one_past t x ys)

few_nothing : (c : Combine) → AreFew 0 (nothing c)
few_nothing Sum = record { x_few = omega (arith, ints); y_few = omega (arith, ints); z_few = omega (arith, ints) }
few_nothing Max = record { x_few = omega (arith, ints); y_few = omega (arith, ints); z_few = omega (arith, ints) }
few_nothing Min = record { x_few = omega (arith, ints); y_few = omega (arith, ints); z_few = omega (arith, ints) }

pub all_nothing : (vs : List ForceVar) → All (AreFew 0) (map (λ v. nothing v.combine) vs)
all_nothing vs = All-map (AreFew 0) (λ (v : ForceVar). nothing v.combine) vs (λ k d within. few_nothing (get_or vs k d).combine)
