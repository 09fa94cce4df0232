-- What is done in each lane for the operators of the kernel language, by the registers of their operands.
use Rattle.std.specs.Prelude.{ℕ, ◌-◌, pos, Bool, true, false, ◌||◌, not, nat_le, if◌then◌else◌}
use Rattle.kern_tree.specs.declared.expr.Op1.{Op1}
use Rattle.kern_tree.specs.declared.expr.Op1.TheVariants as op1s
use Rattle.kern_tree.specs.declared.expr.Op2.{Op2}
use Rattle.kern_tree.specs.declared.expr.Op2.TheVariants as op2s
use Rattle.kern_tree.specs.declared.expr.Op3.{Op3}
use Rattle.kern_tree.specs.declared.expr.Op3.TheVariants as op3s
use Rattle.kern_tree.specs.declared.kernel.Kind.{Kind}
use Rattle.kern_tree.specs.declared.kernel.Kind.TheVariants as kinds
use Rattle.lane_code.specs.declared.instruction.Lane.{Lane}
use Rattle.lane_code.specs.declared.instruction.Lane.TheVariants as lanes
use Rattle.lane_code.specs.declared.instruction.Relation.TheVariants as relations
use Rattle.lane_codegen.specs.declared.acts.Acts.{Acts}
use Rattle.lane_codegen.specs.declared.place.Registers.{Registers}
use Rattle.pf_geom.specs.declared.axis.Axis.{Axis}
use Rattle.pf_geom.specs.declared.axis.Axis.TheVariants.{X, Y, Z}

abbrev pub alike : Lane → Acts
alike act = record { x = act; y = act; z = act }

abbrev pub along : Axis → Registers → ℕ
along X at = at.x
along Y at = at.y
along Z at = at.z

-- `!` has no numbers
abbrev pub one_act : Op1 → ℕ → Lane
one_act op1s.Neg a = lanes.Neg a
one_act op1s.Isqrt a = lanes.Root a
one_act op1s.Abs a = lanes.Abs a
one_act op1s.Not a = lanes.Copy a

abbrev pub one_acts : Op1 → Registers → Acts
one_acts op a = record { x = one_act op a.x; y = one_act op a.y; z = one_act op a.z }

-- `&&` and `||` have conditions
abbrev pub two_act : Op2 → ℕ → ℕ → Lane
two_act op2s.Add a b = lanes.Add a b
two_act op2s.Sub a b = lanes.Sub a b
two_act op2s.Mul a b = lanes.Mul a b
two_act op2s.Div a b = lanes.Div a b
two_act op2s.Lt a b = lanes.Compare relations.Lt a b
two_act op2s.Le a b = lanes.Compare relations.Le a b
two_act op2s.Gt a b = lanes.Compare relations.Gt a b
two_act op2s.Ge a b = lanes.Compare relations.Ge a b
two_act op2s.Eq a b = lanes.Compare relations.Eq a b
two_act op2s.Ne a b = lanes.Compare relations.Ne a b
two_act op2s.Least a b = lanes.Least a b
two_act op2s.Most a b = lanes.Most a b
two_act op2s.And a b = lanes.Copy a
two_act op2s.Or a b = lanes.Copy a

-- a num stands in one register along each axis
abbrev pub same_registers : ℕ → Registers
same_registers a = record { x = a; y = a; z = a }

abbrev pub spread : Kind → Registers → Registers
spread kinds.Num a = same_registers a.x
spread kinds.Vec3 a = a

abbrev pub both_acts : Op2 → Registers → Registers → Acts
both_acts op a b = record { x = two_act op a.x b.x; y = two_act op a.y b.y; z = two_act op a.z b.z }

abbrev pub is_inner : Op2 → Kind → Kind → Bool
is_inner op2s.Mul kinds.Vec3 kinds.Vec3 = true
is_inner _ _ _ = false

-- the product of two vecs is their inner product
abbrev pub two_acts : Op2 → Kind → Registers → Kind → Registers → Acts
two_acts op left a right b =
    if is_inner op left right then alike (lanes.Dot a.x a.y a.z b.x b.y b.z)
    else both_acts op (spread left a) (spread right b)

abbrev pub three_acts : Op3 → Registers → Registers → Registers → Acts
three_acts op3s.Muldiv a b c = record {
  x = lanes.MulDiv a.x b.x c.x;
  y = lanes.MulDiv a.x b.y c.x;
  z = lanes.MulDiv a.x b.z c.x;
}
three_acts op3s.Build a b c = record { x = lanes.Copy a.x; y = lanes.Copy b.x; z = lanes.Copy c.x }

-- from one scale to another
abbrev pub to_act : ℕ → ℕ → ℕ → Lane
to_act to scale a =
    if not (nat_le to 62) || not (nat_le scale 62) then lanes.Const (pos 0)
    else if nat_le scale to then lanes.Up a (to - scale) else lanes.Down a (scale - to)

abbrev pub to_acts : ℕ → ℕ → Registers → Acts
to_acts to scale a = record { x = to_act to scale a.x; y = to_act to scale a.y; z = to_act to scale a.z }

abbrev pub copies : Registers → Acts
copies a = record { x = lanes.Copy a.x; y = lanes.Copy a.y; z = lanes.Copy a.z }
