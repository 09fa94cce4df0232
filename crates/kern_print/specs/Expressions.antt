-- The canonical text of an expression: brackets stand exactly where they are needed.
use Rattle.std.specs.Prelude.{ℕ, nat_lt, if◌then◌else◌, zero, suc, List, ◌++◌, codes}
use Rattle.std.specs.Fmt.{decimal}
use Rattle.pf_geom.specs.declared.axis.Axis.{Axis}
use Rattle.pf_geom.specs.declared.axis.Axis.TheVariants as axes
use Rattle.kern_tree.specs.declared.expr.Expr.{Expr}
use Rattle.kern_tree.specs.declared.expr.Op1.{Op1}
use Rattle.kern_tree.specs.declared.expr.Op1.TheVariants as ops1
use Rattle.kern_tree.specs.declared.expr.Op2.{Op2}
use Rattle.kern_tree.specs.declared.expr.Op2.TheVariants as ops2
use Rattle.kern_tree.specs.declared.expr.Op3.{Op3}
use Rattle.kern_tree.specs.declared.expr.Op3.TheVariants as ops3
use Rattle.kern_tree.specs.declared.expr.Form.{Form}
use Rattle.kern_tree.specs.declared.expr.Form.TheFolds.{fold-Form}
use Rattle.kern_tree.specs.declared.expr.Form.TheOpen.{Form-F, Expr-F}
use Rattle.kern_tree.specs.declared.expr.Form.TheOpen as forms

-- the text of an operand, by the level that is needed in its place
abbrev pub Operand : Type 0
Operand = ℕ → List ℕ

-- `||` 1, `&&` 2, relations 3, `+ -` 4, `* /` 5; the words `min` and `max` are calls, and have 7
abbrev pub operator_level : Op2 → ℕ
operator_level ops2.Or = 1
operator_level ops2.And = 2
operator_level ops2.Lt = 3
operator_level ops2.Le = 3
operator_level ops2.Gt = 3
operator_level ops2.Ge = 3
operator_level ops2.Eq = 3
operator_level ops2.Ne = 3
operator_level ops2.Add = 4
operator_level ops2.Sub = 4
operator_level ops2.Mul = 5
operator_level ops2.Div = 5
operator_level ops2.Least = 7
operator_level ops2.Most = 7

-- `-` and `!` 6; the words `isqrt` and `abs` are calls, and have 7
abbrev pub prefix_level : Op1 → ℕ
prefix_level ops1.Neg = 6
prefix_level ops1.Not = 6
prefix_level ops1.Isqrt = 7
prefix_level ops1.Abs = 7

-- the level of an expression
abbrev pub level : {A B : Type 0} → Form-F A B → ℕ
level (forms.Number mantissa scale) = 7
level (forms.Name name) = 7
level (forms.Part a axis) = 7
level (forms.One op a) = prefix_level op
level (forms.Two op a b) = operator_level op
level (forms.Three op a b c) = 7
level (forms.To scale a) = 7

-- a literal of scale 0 has no scale
abbrev pub literal_text : ℕ → ℕ → List ℕ
literal_text mantissa zero = decimal mantissa
literal_text mantissa (suc scale) = decimal mantissa ++ codes " S" ++ decimal (suc scale)

abbrev pub axis_text : Axis → List ℕ
axis_text axes.X = codes "x"
axis_text axes.Y = codes "y"
axis_text axes.Z = codes "z"

-- `a n` is the operand a where level n is needed
abbrev pub one_text : Op1 → Operand → List ℕ
one_text ops1.Neg a = codes "-" ++ a 7
one_text ops1.Not a = codes "!" ++ a 7
one_text ops1.Isqrt a = codes "isqrt(" ++ a 1 ++ codes ")"
one_text ops1.Abs a = codes "abs(" ++ a 1 ++ codes ")"

abbrev pub two_text : Op2 → Operand → Operand → List ℕ
two_text ops2.Or a b = a 1 ++ codes " || " ++ b 2
two_text ops2.And a b = a 2 ++ codes " && " ++ b 3
two_text ops2.Lt a b = a 4 ++ codes " < " ++ b 4
two_text ops2.Le a b = a 4 ++ codes " <= " ++ b 4
two_text ops2.Gt a b = a 4 ++ codes " > " ++ b 4
two_text ops2.Ge a b = a 4 ++ codes " >= " ++ b 4
two_text ops2.Eq a b = a 4 ++ codes " == " ++ b 4
two_text ops2.Ne a b = a 4 ++ codes " != " ++ b 4
two_text ops2.Add a b = a 4 ++ codes " + " ++ b 5
two_text ops2.Sub a b = a 4 ++ codes " - " ++ b 5
two_text ops2.Mul a b = a 5 ++ codes " * " ++ b 6
two_text ops2.Div a b = a 5 ++ codes " / " ++ b 6
two_text ops2.Least a b = codes "min(" ++ a 1 ++ codes ", " ++ b 1 ++ codes ")"
two_text ops2.Most a b = codes "max(" ++ a 1 ++ codes ", " ++ b 1 ++ codes ")"

abbrev pub three_text : Op3 → Operand → Operand → Operand → List ℕ
three_text ops3.Muldiv a b c = codes "muldiv(" ++ a 1 ++ codes ", " ++ b 1 ++ codes ", " ++ c 1 ++ codes ")"
three_text ops3.Build a b c = codes "vec(" ++ a 1 ++ codes ", " ++ b 1 ++ codes ", " ++ c 1 ++ codes ")"

-- an expression without brackets around it
abbrev pub form_text : Form-F Operand Operand → List ℕ
form_text (forms.Number mantissa scale) = literal_text mantissa scale
form_text (forms.Name name) = name
form_text (forms.Part a axis) = a 7 ++ codes "." ++ axis_text axis
form_text (forms.One op a) = one_text op a
form_text (forms.Two op a b) = two_text op a b
form_text (forms.Three op a b c) = three_text op a b c
form_text (forms.To scale a) = codes "to(" ++ decimal scale ++ codes ", " ++ a 1 ++ codes ")"

-- brackets stand where the level is lower than the one that is needed
abbrev pub in_brackets : Form-F Operand Operand → Operand
in_brackets form needed =
    if nat_lt (level form) needed then codes "(" ++ form_text form ++ codes ")" else form_text form

abbrev pub operand_of : Expr-F Operand Operand → Operand
operand_of expr = expr.form

-- an expression in an operand's place
abbrev pub form_operand : Form → Operand
form_operand = fold-Form Operand Operand in_brackets operand_of

abbrev pub operand_text : Expr → Operand
operand_text expr = form_operand expr.form

-- every expression has level 1 or more
abbrev pub expr_text : Expr → List ℕ
expr_text expr = operand_text expr 1
