-- The types of expressions, by their forms: the type of a node whose operands have these types, or
-- its fault. Kind comes before Scale.
use Rattle.std.specs.Prelude.{ℕ, ◌+◌, ◌-◌, ◌/◌, ◌%◌, Bool, ◌&&◌, ◌==◌, nat_le, Ok, Err}
use Rattle.kern_token.specs.declared.limits.TheConstants.{MOST_SCALE}
use Rattle.kern_tree.specs.declared.expr.Op1.{Op1}
use Rattle.kern_tree.specs.declared.expr.Op1.TheVariants as op1s
use Rattle.kern_tree.specs.declared.expr.Op2.{Op2}
use Rattle.kern_tree.specs.declared.expr.Op2.TheVariants as op2s
use Rattle.kern_tree.specs.declared.expr.Op3.{Op3}
use Rattle.kern_tree.specs.declared.expr.Op3.TheVariants as op3s
use Rattle.kern_tree.specs.declared.kernel.Kind.{Kind}
use Rattle.kern_tree.specs.declared.kernel.Kind.TheVariants as kinds
use Rattle.kern_types.specs.declared.expr_type.ExprType.{ExprType}
use Rattle.kern_types.specs.declared.expr_type.ExprType.TheVariants.{Scaled, Condition}
use Rattle.kern_types.specs.declared.fault.TypeFault.TheVariants as faults
use Rattle.kern_types.specs.Steps.{OrFault, ◌>>◌, unless}

-- num times num is num, num times vec is vec, and vec times vec is num, the inner product
abbrev pub product_kind : Kind → Kind → Kind
product_kind kinds.Num kinds.Num = kinds.Num
product_kind kinds.Num kinds.Vec3 = kinds.Vec3
product_kind kinds.Vec3 kinds.Num = kinds.Vec3
product_kind kinds.Vec3 kinds.Vec3 = kinds.Num

-- Each takes the node's place.
module _ (place : ℕ) where
  abbrev pub kind_fault : OrFault ExprType
  kind_fault = Err (faults.Kind place)

  -- this type, where the test of the scale holds
  abbrev pub scaled_if : Bool → ExprType → OrFault ExprType
  scaled_if fits type = do
    unless fits (faults.Scale place)
    Ok type

  -- -a
  abbrev pub negative_type : ExprType → OrFault ExprType
  negative_type (Scaled kind scale) = Ok (Scaled kind scale)
  negative_type Condition = kind_fault

  -- !a
  abbrev pub not_type : ExprType → OrFault ExprType
  not_type (Scaled kind scale) = kind_fault
  not_type Condition = Ok Condition

  -- abs(a)
  abbrev pub abs_type : ExprType → OrFault ExprType
  abs_type (Scaled kinds.Num scale) = Ok (Scaled kinds.Num scale)
  abs_type _ = kind_fault

  -- isqrt(a)
  abbrev pub root_type : ExprType → OrFault ExprType
  root_type (Scaled kinds.Num scale) = scaled_if (scale % 2 == 0) (Scaled kinds.Num (scale / 2))
  root_type _ = kind_fault

  -- a + b, a - b
  abbrev pub sum_type : ExprType → ExprType → OrFault ExprType
  sum_type (Scaled kinds.Num s) (Scaled kinds.Num t) = scaled_if (s == t) (Scaled kinds.Num s)
  sum_type (Scaled kinds.Vec3 s) (Scaled kinds.Vec3 t) = scaled_if (s == t) (Scaled kinds.Vec3 s)
  sum_type _ _ = kind_fault

  -- a * b
  abbrev pub product_type : ExprType → ExprType → OrFault ExprType
  product_type (Scaled a s) (Scaled b t) = scaled_if (nat_le (s + t) MOST_SCALE) (Scaled (product_kind a b) (s + t))
  product_type _ _ = kind_fault

  -- a / b
  abbrev pub quotient_type : ExprType → ExprType → OrFault ExprType
  quotient_type (Scaled kind s) (Scaled kinds.Num t) = scaled_if (nat_le t s) (Scaled kind (s - t))
  quotient_type _ _ = kind_fault

  -- min(a, b), max(a, b)
  abbrev pub least_type : ExprType → ExprType → OrFault ExprType
  least_type (Scaled kinds.Num s) (Scaled kinds.Num t) = scaled_if (s == t) (Scaled kinds.Num s)
  least_type _ _ = kind_fault

  -- a < b and its kin
  abbrev pub relation_type : ExprType → ExprType → OrFault ExprType
  relation_type (Scaled kinds.Num s) (Scaled kinds.Num t) = scaled_if (s == t) Condition
  relation_type _ _ = kind_fault

  -- a && b, a || b
  abbrev pub both_type : ExprType → ExprType → OrFault ExprType
  both_type Condition Condition = Ok Condition
  both_type _ _ = kind_fault

  -- muldiv(a, b, c)
  abbrev pub muldiv_type : ExprType → ExprType → ExprType → OrFault ExprType
  muldiv_type (Scaled kinds.Num s) (Scaled kind t) (Scaled kinds.Num u) =
      scaled_if (nat_le u (s + t) && nat_le (s + t) (u + MOST_SCALE)) (Scaled kind (s + t - u))
  muldiv_type _ _ _ = kind_fault

  -- vec(a, b, c)
  abbrev pub build_type : ExprType → ExprType → ExprType → OrFault ExprType
  build_type (Scaled kinds.Num s) (Scaled kinds.Num t) (Scaled kinds.Num u) =
      scaled_if (s == t && t == u) (Scaled kinds.Vec3 s)
  build_type _ _ _ = kind_fault

  -- to(k, a)
  abbrev pub to_type : ℕ → ExprType → OrFault ExprType
  to_type k (Scaled kind scale) = scaled_if (nat_le k MOST_SCALE) (Scaled kind k)
  to_type k Condition = kind_fault

  -- a.x, a.y, a.z
  abbrev pub part_type : ExprType → OrFault ExprType
  part_type (Scaled kinds.Vec3 scale) = Ok (Scaled kinds.Num scale)
  part_type _ = kind_fault

  abbrev pub one_type : Op1 → ExprType → OrFault ExprType
  one_type op1s.Neg = negative_type
  one_type op1s.Not = not_type
  one_type op1s.Isqrt = root_type
  one_type op1s.Abs = abs_type

  abbrev pub two_type : Op2 → ExprType → ExprType → OrFault ExprType
  two_type op2s.Add = sum_type
  two_type op2s.Sub = sum_type
  two_type op2s.Mul = product_type
  two_type op2s.Div = quotient_type
  two_type op2s.Lt = relation_type
  two_type op2s.Le = relation_type
  two_type op2s.Gt = relation_type
  two_type op2s.Ge = relation_type
  two_type op2s.Eq = relation_type
  two_type op2s.Ne = relation_type
  two_type op2s.And = both_type
  two_type op2s.Or = both_type
  two_type op2s.Least = least_type
  two_type op2s.Most = least_type

  abbrev pub three_type : Op3 → ExprType → ExprType → ExprType → OrFault ExprType
  three_type op3s.Muldiv = muldiv_type
  three_type op3s.Build = build_type
