-- Values of the kernel language, which carry their kind and their scale. The mantissas of a vec are three.
use Rattle.std.specs.Prelude.{ℕ, ℤ, pos, List, [], ◌∷◌, slice_index_or}
use Rattle.kern_tree.specs.declared.kernel.Kind.{Kind}
use Rattle.kern_tree.specs.declared.kernel.Kind.TheVariants as kinds
use Rattle.kern_types.specs.declared.expr_type.ExprType.{ExprType}
use Rattle.kern_types.specs.declared.expr_type.ExprType.TheVariants.{Scaled, Condition}
use Rattle.kern_meaning.specs.declared.value.Value.{Value}
use Rattle.kern_meaning.specs.declared.value.Value.TheVariants as values

abbrev pub x_of : List ℤ → ℤ
x_of v = slice_index_or v 0 (pos 0)

abbrev pub y_of : List ℤ → ℤ
y_of v = slice_index_or v 1 (pos 0)

abbrev pub z_of : List ℤ → ℤ
z_of v = slice_index_or v 2 (pos 0)

-- the type of a value
abbrev pub type_of_value : Value → ExprType
type_of_value (values.Num mantissa scale) = Scaled kinds.Num scale
type_of_value (values.Vec3 mantissas scale) = Scaled kinds.Vec3 scale
type_of_value (values.Condition holds) = Condition

-- the mantissas along x, y and z: a num stands in the first, and the others are 0
abbrev pub components : Value → List ℤ
components (values.Num mantissa scale) = mantissa ∷ pos 0 ∷ pos 0 ∷ []
components (values.Vec3 mantissas scale) = mantissas
components (values.Condition holds) = pos 0 ∷ pos 0 ∷ pos 0 ∷ []

-- the value of this kind and scale with these mantissas
abbrev pub value_of_kind : Kind → ℕ → List ℤ → Value
value_of_kind kinds.Num scale mantissas = values.Num (x_of mantissas) scale
value_of_kind kinds.Vec3 scale mantissas = values.Vec3 mantissas scale
