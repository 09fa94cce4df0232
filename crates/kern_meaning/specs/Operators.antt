-- The values of the forms of expressions, by the values of their operands. The exact value of a node is
-- tested for the range of 64 bits once, that of a vec component by component. Operands of other kinds
-- or scales have no result.
use Rattle.std.specs.Prelude.{ℕ, ◌+◌, ◌-◌, ◌/◌, ◌%◌, ℤ, pos, ◌+ℤ◌, ◌-ℤ◌, ◌*ℤ◌, neg_ℤ, unsigned_abs, int_le, int_lt, Bool, true, false, not, ◌&&◌, ◌==◌, nat_le, if◌then◌else◌, List, [], ◌∷◌, Option, Some, Result, Ok}
use Rattle.std.specs.Ordering.{int_eq}
use Rattle.pf_geom.specs.declared.axis.Axis.{Axis}
use Rattle.pf_geom.specs.declared.axis.Axis.TheVariants as axes
use Rattle.pf_num.specs.declared.fault.NumFault.{NumFault}
use Rattle.pf_num.specs.Exact.{exact}
use Rattle.pf_num.specs.InnerProduct.{inner_product}
use Rattle.pf_num.specs.Quotient.{exact_quotient}
use Rattle.pf_num.specs.Scale.{rescaled}
use Rattle.pf_num.specs.SquareRoot.{exact_root}
use Rattle.kern_tree.specs.declared.expr.Op1.{Op1}
use Rattle.kern_tree.specs.declared.expr.Op1.TheVariants as op1s
use Rattle.kern_tree.specs.declared.expr.Op2.{Op2}
use Rattle.kern_tree.specs.declared.expr.Op2.TheVariants as op2s
use Rattle.kern_tree.specs.declared.expr.Op3.{Op3}
use Rattle.kern_tree.specs.declared.expr.Op3.TheVariants as op3s
use Rattle.kern_tree.specs.declared.kernel.Kind.TheVariants as kinds
use Rattle.kern_types.specs.declared.expr_type.ExprType.{ExprType}
use Rattle.kern_types.specs.declared.expr_type.ExprType.TheVariants.{Scaled}
use Rattle.kern_meaning.specs.declared.value.Value.{Value}
use Rattle.kern_meaning.specs.declared.value.Value.TheVariants.{Num, Vec3, Condition}
use Rattle.kern_meaning.specs.Stops.{OrStop, ◌>>=◌, no_result, only_if, number_or_fault}
use Rattle.kern_meaning.specs.Values.{x_of, y_of, z_of}

-- a num at this scale
abbrev pub num : ℕ → Result ℤ NumFault → OrStop Value
num scale answer = do
  mantissa ← number_or_fault answer
  Ok (Num mantissa scale)

-- a vec at this scale of these components
abbrev pub vec_of : ℕ → Result ℤ NumFault → Result ℤ NumFault → Result ℤ NumFault → OrStop Value
vec_of scale along_x along_y along_z = do
  x ← number_or_fault along_x
  y ← number_or_fault along_y
  z ← number_or_fault along_z
  Ok (Vec3 (x ∷ y ∷ z ∷ []) scale)

-- by the components of a vec
abbrev pub vec : ℕ → (ℤ → Result ℤ NumFault) → List ℤ → OrStop Value
vec scale of v = vec_of scale (of (x_of v)) (of (y_of v)) (of (z_of v))

-- by the components of two vecs
abbrev pub vec_by_two : ℕ → (ℤ → ℤ → Result ℤ NumFault) → List ℤ → List ℤ → OrStop Value
vec_by_two scale of v w = vec_of scale (of (x_of v) (x_of w)) (of (y_of v) (y_of w)) (of (z_of v) (z_of w))

abbrev pub literal_value : ℕ → ℕ → OrStop Value
literal_value mantissa scale = num scale (exact (pos mantissa))

-- -a
abbrev pub negative_value : Value → OrStop Value
negative_value (Num a s) = num s (exact (neg_ℤ a))
negative_value (Vec3 a s) = vec s (λ x. exact (neg_ℤ x)) a
negative_value (Condition a) = no_result

-- !a
abbrev pub not_value : Value → OrStop Value
not_value (Condition a) = Ok (Condition (not a))
not_value _ = no_result

-- isqrt(a)
abbrev pub root_value : Value → OrStop Value
root_value (Num a s) = only_if (s % 2 == 0) (num (s / 2) (exact_root a))
root_value _ = no_result

-- abs(a)
abbrev pub abs_value : Value → OrStop Value
abs_value (Num a s) = num s (exact (pos (unsigned_abs a)))
abs_value _ = no_result

-- a + b
abbrev pub sum_value : Value → Value → OrStop Value
sum_value (Num a s) (Num b t) = only_if (s == t) (num s (exact (a +ℤ b)))
sum_value (Vec3 a s) (Vec3 b t) = only_if (s == t) (vec_by_two s (λ x y. exact (x +ℤ y)) a b)
sum_value _ _ = no_result

-- a - b
abbrev pub difference_value : Value → Value → OrStop Value
difference_value (Num a s) (Num b t) = only_if (s == t) (num s (exact (a -ℤ b)))
difference_value (Vec3 a s) (Vec3 b t) = only_if (s == t) (vec_by_two s (λ x y. exact (x -ℤ y)) a b)
difference_value _ _ = no_result

-- a num times a vec
abbrev pub multiple : ℤ → ℕ → List ℤ → ℕ → OrStop Value
multiple a s b t = only_if (nat_le (s + t) 62) (vec (s + t) (λ x. exact (a *ℤ x)) b)

-- a vec times a num
abbrev pub scaled_by : List ℤ → ℕ → ℤ → ℕ → OrStop Value
scaled_by a s b t = only_if (nat_le (s + t) 62) (vec (s + t) (λ x. exact (x *ℤ b)) a)

-- a * b, of two vecs the inner product, which is tested once
abbrev pub product_value : Value → Value → OrStop Value
product_value (Num a s) (Num b t) = only_if (nat_le (s + t) 62) (num (s + t) (exact (a *ℤ b)))
product_value (Num a s) (Vec3 b t) = multiple a s b t
product_value (Vec3 a s) (Num b t) = scaled_by a s b t
product_value (Vec3 a s) (Vec3 b t) = only_if (nat_le (s + t) 62) (num (s + t) (exact (inner_product a b)))
product_value _ _ = no_result

-- the components of a vec over a num, toward zero
abbrev pub quotients : ℕ → List ℤ → ℤ → OrStop Value
quotients scale a b = vec scale (λ x. exact_quotient x b) a

-- a / b, toward zero
abbrev pub quotient_value : Value → Value → OrStop Value
quotient_value (Num a s) (Num b t) = only_if (nat_le t s) (num (s - t) (exact_quotient a b))
quotient_value (Vec3 a s) (Num b t) = only_if (nat_le t s) (quotients (s - t) a b)
quotient_value _ _ = no_result

-- the scale of muldiv(a, b, c) is from 0 to 62
abbrev pub muldiv_fits : ℕ → ℕ → ℕ → Bool
muldiv_fits s t u = nat_le u (s + t) && nat_le (s + t) (u + 62)

-- a num times the components of a vec over a num
abbrev pub muldivs : ℕ → ℤ → List ℤ → ℤ → OrStop Value
muldivs scale a b c = vec scale (λ x. exact_quotient (a *ℤ x) c) b

-- muldiv(a, b, c), toward zero; the product isn't tested
abbrev pub muldiv_value : Value → Value → Value → OrStop Value
muldiv_value (Num a s) (Num b t) (Num c u) = only_if (muldiv_fits s t u) (num (s + t - u) (exact_quotient (a *ℤ b) c))
muldiv_value (Num a s) (Vec3 b t) (Num c u) = only_if (muldiv_fits s t u) (muldivs (s + t - u) a b c)
muldiv_value _ _ _ = no_result

-- vec(a, b, c)
abbrev pub build_value : Value → Value → Value → OrStop Value
build_value (Num a s) (Num b t) (Num c u) = only_if (s == t && t == u) (Ok (Vec3 (a ∷ b ∷ c ∷ []) s))
build_value _ _ _ = no_result

-- to(k, a), downward toward zero
abbrev pub to_value : ℕ → Value → OrStop Value
to_value k (Num a s) = only_if (nat_le k 62 && nat_le s 62) (num k (exact (rescaled a s k)))
to_value k (Vec3 a s) = only_if (nat_le k 62 && nat_le s 62) (vec k (λ x. exact (rescaled x s k)) a)
to_value k (Condition a) = no_result

abbrev pub along : Axis → List ℤ → ℤ
along axes.X v = x_of v
along axes.Y v = y_of v
along axes.Z v = z_of v

-- a.x, a.y, a.z
abbrev pub part_value : Axis → Value → OrStop Value
part_value axis (Vec3 a s) = Ok (Num (along axis a) s)
part_value axis _ = no_result

abbrev pub holds : Op2 → ℤ → ℤ → Bool
holds op2s.Lt a b = int_lt a b
holds op2s.Le a b = int_le a b
holds op2s.Gt a b = int_lt b a
holds op2s.Ge a b = int_le b a
holds op2s.Eq a b = int_eq a b
holds op2s.Ne a b = not (int_eq a b)
holds _ a b = false

-- a < b and its kin
abbrev pub relation_value : Op2 → Value → Value → OrStop Value
relation_value op (Num a s) (Num b t) = only_if (s == t) (Ok (Condition (holds op a b)))
relation_value op _ _ = no_result

-- min(a, b)
abbrev pub least_value : Value → Value → OrStop Value
least_value (Num a s) (Num b t) = only_if (s == t) (Ok (Num (if int_le a b then a else b) s))
least_value _ _ = no_result

-- max(a, b)
abbrev pub greatest_value : Value → Value → OrStop Value
greatest_value (Num a s) (Num b t) = only_if (s == t) (Ok (Num (if int_le a b then b else a) s))
greatest_value _ _ = no_result

-- a condition
abbrev pub truth : Value → OrStop Bool
truth (Condition holds) = Ok holds
truth _ = no_result

-- a num or a vec
abbrev pub number : Value → OrStop Value
number (Condition holds) = no_result
number value = Ok value

-- a FORCE variable of this type takes the value
abbrev pub taken_by : Option ExprType → Value → OrStop Value
taken_by (Some (Scaled kinds.Num scale)) (Num a s) = only_if (scale == s) (Ok (Num a s))
taken_by (Some (Scaled kinds.Vec3 scale)) (Vec3 a s) = only_if (scale == s) (Ok (Vec3 a s))
taken_by _ _ = no_result

-- a && b: the right operand counts only where the left is true
abbrev pub and_value : OrStop Value → OrStop Value → OrStop Value
and_value left right = do
  value ← left
  a ← truth value
  if a then (do
    other ← right
    b ← truth other
    Ok (Condition b)) else Ok (Condition false)

-- a || b: the right operand counts only where the left is false
abbrev pub or_value : OrStop Value → OrStop Value → OrStop Value
or_value left right = do
  value ← left
  a ← truth value
  if a then Ok (Condition true) else (do
    other ← right
    b ← truth other
    Ok (Condition b))

abbrev pub one_value : Op1 → Value → OrStop Value
one_value op1s.Neg = negative_value
one_value op1s.Not = not_value
one_value op1s.Isqrt = root_value
one_value op1s.Abs = abs_value

-- by the values of both operands, which `&&` and `||` don't always need
abbrev pub two_value : Op2 → Value → Value → OrStop Value
two_value op2s.Add = sum_value
two_value op2s.Sub = difference_value
two_value op2s.Mul = product_value
two_value op2s.Div = quotient_value
two_value op2s.Lt = relation_value op2s.Lt
two_value op2s.Le = relation_value op2s.Le
two_value op2s.Gt = relation_value op2s.Gt
two_value op2s.Ge = relation_value op2s.Ge
two_value op2s.Eq = relation_value op2s.Eq
two_value op2s.Ne = relation_value op2s.Ne
two_value op2s.Least = least_value
two_value op2s.Most = greatest_value
two_value _ = λ a b. no_result

-- operands from the left
abbrev pub two_form : Op2 → OrStop Value → OrStop Value → OrStop Value
two_form op2s.And left right = and_value left right
two_form op2s.Or left right = or_value left right
two_form op left right = do
  a ← left
  b ← right
  two_value op a b

abbrev pub three_value : Op3 → Value → Value → Value → OrStop Value
three_value op3s.Muldiv = muldiv_value
three_value op3s.Build = build_value
