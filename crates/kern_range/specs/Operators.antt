-- The ranges of the forms of expressions, by the ranges of their operands. Operands of other kinds or scales,
-- which a typed kernel never has, are bad.
use Rattle.std.specs.Prelude.{ℕ, ◌+◌, ◌-◌, ◌/◌, ◌%◌, pos, Bool, true, false, ◌&&◌, ◌==◌, nat_le, Ok}
use Rattle.pf_geom.specs.declared.axis.Axis.{Axis}
use Rattle.pf_geom.specs.declared.axis.Axis.TheVariants as axes
use Rattle.kern_tree.specs.declared.expr.Op1.{Op1}
use Rattle.kern_tree.specs.declared.expr.Op1.TheVariants as op1s
use Rattle.kern_tree.specs.declared.expr.Op2.{Op2}
use Rattle.kern_tree.specs.declared.expr.Op2.TheVariants as op2s
use Rattle.kern_tree.specs.declared.expr.Op3.{Op3}
use Rattle.kern_tree.specs.declared.expr.Op3.TheVariants as op3s
use Rattle.kern_meaning.specs.Operators.{muldiv_fits}
use Rattle.kern_meaning.specs.Stops.{◌>>=◌}
use Rattle.kern_range.specs.declared.interval.Interval.{Interval}
use Rattle.kern_range.specs.declared.range.Range.{Range}
use Rattle.kern_range.specs.declared.range.Range.TheVariants.{Num, Vec3, Condition}
use Rattle.kern_range.specs.declared.range.Spans.{Spans}
use Rattle.kern_range.specs.Intervals.{OrBad, bad, narrow, wider, sum, difference, negative, lesser, greater, rescaled_ends, root, magnitude, product, quotient}

-- where the test holds
abbrev pub only_if : {A : Type 0} → Bool → OrBad A → OrBad A
only_if true answer = answer
only_if false answer = bad

-- of a num at this scale
abbrev pub num : ℕ → OrBad Interval → OrBad Range
num scale answer = do
  a ← answer
  Ok (Num a scale)

-- of a vec at this scale
abbrev pub vec_of : ℕ → OrBad Interval → OrBad Interval → OrBad Interval → OrBad Range
vec_of scale along_x along_y along_z = do
  x ← along_x
  y ← along_y
  z ← along_z
  Ok (Vec3 (record { x = x; y = y; z = z }) scale)

-- by the components of a vec
abbrev pub vec : ℕ → (Interval → OrBad Interval) → Spans → OrBad Range
vec scale of v = vec_of scale (of v.x) (of v.y) (of v.z)

-- by the components of two vecs
abbrev pub vec_by_two : ℕ → (Interval → Interval → OrBad Interval) → Spans → Spans → OrBad Range
vec_by_two scale of v w = vec_of scale (of v.x w.x) (of v.y w.y) (of v.z w.z)

abbrev pub literal_range : ℕ → ℕ → OrBad Range
literal_range mantissa scale = num scale (narrow (record { least = pos mantissa; greatest = pos mantissa }))

-- the component of a vec
abbrev pub part_range : Axis → Range → OrBad Range
part_range axes.X (Vec3 a s) = Ok (Num a.x s)
part_range axes.Y (Vec3 a s) = Ok (Num a.y s)
part_range axes.Z (Vec3 a s) = Ok (Num a.z s)
part_range axis _ = bad

-- ---- of one operand

-- -a
abbrev pub negative_range : Range → OrBad Range
negative_range (Num a s) = num s (narrow (negative a))
negative_range (Vec3 a s) = vec s (λ x. narrow (negative x)) a
negative_range Condition = bad

-- isqrt(a)
abbrev pub root_range : Range → OrBad Range
root_range (Num a s) = only_if (s % 2 == 0) (num (s / 2) (root a))
root_range _ = bad

-- abs(a)
abbrev pub abs_range : Range → OrBad Range
abs_range (Num a s) = num s (narrow (magnitude a))
abs_range _ = bad

abbrev pub one_range : Op1 → Range → OrBad Range
one_range op1s.Neg = negative_range
one_range op1s.Not = λ a. Ok Condition
one_range op1s.Isqrt = root_range
one_range op1s.Abs = abs_range

-- to(k, a)
abbrev pub to_range : ℕ → Range → OrBad Range
to_range k (Num a s) = only_if (nat_le k 62 && nat_le s 62) (num k (narrow (rescaled_ends a s k)))
to_range k (Vec3 a s) = only_if (nat_le k 62 && nat_le s 62) (vec k (λ x. narrow (rescaled_ends x s k)) a)
to_range k Condition = bad

-- ---- of two operands

-- a + b
abbrev pub sum_range : Range → Range → OrBad Range
sum_range (Num a s) (Num b t) = only_if (s == t) (num s (narrow (sum a b)))
sum_range (Vec3 a s) (Vec3 b t) = only_if (s == t) (vec_by_two s (λ x y. narrow (sum x y)) a b)
sum_range _ _ = bad

-- a - b
abbrev pub difference_range : Range → Range → OrBad Range
difference_range (Num a s) (Num b t) = only_if (s == t) (num s (narrow (difference a b)))
difference_range (Vec3 a s) (Vec3 b t) = only_if (s == t) (vec_by_two s (λ x y. narrow (difference x y)) a b)
difference_range _ _ = bad

-- of two vecs: the sum of three products
abbrev pub inner : Bool → Spans → Spans → Interval
inner one_name a b =
    sum (product one_name a.x b.x) (sum (product one_name a.y b.y) (product one_name a.z b.z))

-- a num times a vec
abbrev pub multiple : ℕ → Interval → ℕ → Spans → OrBad Range
multiple s a t b = only_if (nat_le (s + t) 62) (vec (s + t) (λ x. narrow (product false a x)) b)

-- a vec times a num
abbrev pub scaled_by : ℕ → Spans → ℕ → Interval → OrBad Range
scaled_by s a t b = only_if (nat_le (s + t) 62) (vec (s + t) (λ x. narrow (product false x b)) a)

-- a * b, where both are one name or not
abbrev pub product_range : Bool → Range → Range → OrBad Range
product_range one_name (Num a s) (Num b t) =
    only_if (nat_le (s + t) 62) (num (s + t) (narrow (product one_name a b)))
product_range one_name (Num a s) (Vec3 b t) = multiple s a t b
product_range one_name (Vec3 a s) (Num b t) = scaled_by s a t b
product_range one_name (Vec3 a s) (Vec3 b t) =
    only_if (nat_le (s + t) 62) (num (s + t) (narrow (inner one_name a b)))
product_range one_name _ _ = bad

-- a / b
abbrev pub quotient_range : Range → Range → OrBad Range
quotient_range (Num a s) (Num b t) = only_if (nat_le t s) (num (s - t) (quotient a b))
quotient_range (Vec3 a s) (Num b t) = only_if (nat_le t s) (vec (s - t) (λ x. quotient x b) a)
quotient_range _ _ = bad

-- min(a, b)
abbrev pub least_range : Range → Range → OrBad Range
least_range (Num a s) (Num b t) = only_if (s == t) (Ok (Num (lesser a b) s))
least_range _ _ = bad

-- max(a, b)
abbrev pub greatest_range : Range → Range → OrBad Range
greatest_range (Num a s) (Num b t) = only_if (s == t) (Ok (Num (greater a b) s))
greatest_range _ _ = bad

-- a condition has no interval; both sides of `&&` and `||` are taken
abbrev pub two_range : Op2 → Bool → Range → Range → OrBad Range
two_range op2s.Add one_name = sum_range
two_range op2s.Sub one_name = difference_range
two_range op2s.Mul one_name = product_range one_name
two_range op2s.Div one_name = quotient_range
two_range op2s.Least one_name = least_range
two_range op2s.Most one_name = greatest_range
two_range _ one_name = λ a b. Ok Condition

-- ---- of three operands

-- a num times the components of a vec over a num
abbrev pub muldivs : ℕ → Interval → Spans → Interval → OrBad Range
muldivs scale a b c = vec scale (λ x. quotient (product false a x) c) b

-- muldiv(a, b, c), where a and b are one name or not; the product isn't narrowed
abbrev pub muldiv_range : Bool → Range → Range → Range → OrBad Range
muldiv_range one_name (Num a s) (Num b t) (Num c u) =
    only_if (muldiv_fits s t u) (num (s + t - u) (quotient (product one_name a b) c))
muldiv_range one_name (Num a s) (Vec3 b t) (Num c u) =
    only_if (muldiv_fits s t u) (muldivs (s + t - u) a b c)
muldiv_range one_name _ _ _ = bad

-- vec(a, b, c)
abbrev pub build_range : Range → Range → Range → OrBad Range
build_range (Num a s) (Num b t) (Num c u) =
    only_if (s == t && t == u) (Ok (Vec3 (record { x = a; y = b; z = c }) s))
build_range _ _ _ = bad

abbrev pub three_range : Op3 → Bool → Range → Range → Range → OrBad Range
three_range op3s.Muldiv one_name = muldiv_range one_name
three_range op3s.Build one_name = build_range

-- ---- of a name after an `if`

-- the least range that holds both
abbrev pub joined : OrBad Range → OrBad Range → OrBad Range
joined (Ok (Num a s)) (Ok (Num b t)) = only_if (s == t) (Ok (Num (wider a b) s))
joined (Ok (Vec3 a s)) (Ok (Vec3 b t)) =
    only_if (s == t) (Ok (Vec3 (record { x = wider a.x b.x; y = wider a.y b.y; z = wider a.z b.z }) s))
joined (Ok Condition) (Ok Condition) = Ok Condition
joined _ _ = bad
