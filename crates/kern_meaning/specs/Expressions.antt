-- The value of an expression, with the names that have a value so far, or its first fault.
use Rattle.std.specs.Prelude.{Bool, Option}
use Rattle.kern_types.specs.declared.expr_type.ExprType.{ExprType}
use Rattle.kern_tree.specs.declared.expr.Expr.{Expr}
use Rattle.kern_tree.specs.declared.expr.Form.{Form}
use Rattle.kern_tree.specs.declared.expr.Form.TheFolds.{fold-Form}
use Rattle.kern_tree.specs.declared.expr.Form.TheOpen.{Form-F, Expr-F}
use Rattle.kern_tree.specs.declared.expr.Form.TheOpen as forms
use Rattle.kern_meaning.specs.declared.value.Value.{Value}
use Rattle.kern_meaning.specs.Names.{Known, name_value}
use Rattle.kern_meaning.specs.Operators.{literal_value, number, truth, taken_by, part_value, one_value, two_form, three_value, to_value}
use Rattle.kern_meaning.specs.Stops.{OrStop, ◌>>=◌}

abbrev pub value_of_form : Expr-F (OrStop Value) (OrStop Value) → OrStop Value
value_of_form expr = expr.form

module _ (known : Known) where
  -- by the values of the operands, from the left
  abbrev pub form_meaning : Form-F (OrStop Value) (OrStop Value) → OrStop Value
  form_meaning (forms.Number mantissa scale) = literal_value mantissa scale
  form_meaning (forms.Name name) = name_value (known name)
  form_meaning (forms.Part whole axis) = do
    value ← whole
    part_value axis value
  form_meaning (forms.One op operand) = do
    value ← operand
    one_value op value
  form_meaning (forms.Two op left right) = two_form op left right
  form_meaning (forms.Three op first second third) = do
    a ← first
    b ← second
    c ← third
    three_value op a b c
  form_meaning (forms.To k operand) = do
    value ← operand
    to_value k value

  abbrev pub form_value : Form → OrStop Value
  form_value = fold-Form (OrStop Value) (OrStop Value) form_meaning value_of_form

  abbrev pub value_of : Expr → OrStop Value
  value_of expr = form_value expr.form

  -- of a num or a vec
  abbrev pub number_value_of : Expr → OrStop Value
  number_value_of expr = value_of expr >>= number

  -- of a condition
  abbrev pub truth_of : Expr → OrStop Bool
  truth_of expr = value_of expr >>= truth

  -- of what a FORCE variable of this type takes
  abbrev pub contribution_of : Option ExprType → Expr → OrStop Value
  contribution_of force expr = value_of expr >>= taken_by force
