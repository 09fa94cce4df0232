-- The range of an expression by the ranges of names, where no node of it is bad.
use Rattle.std.specs.Prelude.{ℕ, Bool, false, List, Option, Some, None}
use Rattle.std.specs.Str.{bytes_eq}
use Rattle.kern_tree.specs.declared.expr.Expr.{Expr}
use Rattle.kern_tree.specs.declared.expr.Form.{Form}
use Rattle.kern_tree.specs.declared.expr.Form.TheFolds.{fold-Form}
use Rattle.kern_tree.specs.declared.expr.Form.TheOpen.{Form-F, Expr-F}
use Rattle.kern_tree.specs.declared.expr.Form.TheOpen as forms
use Rattle.kern_meaning.specs.Stops.{◌>>=◌}
use Rattle.kern_range.specs.declared.range.Range.{Range}
use Rattle.kern_range.specs.Intervals.{OrBad}
use Rattle.kern_range.specs.Operators.{literal_range, part_range, one_range, two_range, three_range, to_range}

-- the range of each name; a name without a value, which a typed kernel never reads, is bad
abbrev pub Known : Type 0
Known = List ℕ → OrBad Range

-- a node: the name, where it is one, and its range
pub record Node : Type 0 where
  pub called : Option (List ℕ)
  pub range : OrBad Range

abbrev pub unnamed : OrBad Range → Node
unnamed range = record { called = None; range = range }

-- whether two operands are one name in the text
abbrev pub is_one_name : Option (List ℕ) → Option (List ℕ) → Bool
is_one_name (Some a) (Some b) = bytes_eq a b
is_one_name _ _ = false

abbrev pub node_of_form : Expr-F Node Node → Node
node_of_form expr = expr.form

module _ (known : Known) where
  abbrev pub form_node : Form-F Node Node → Node
  form_node (forms.Number mantissa scale) = unnamed (literal_range mantissa scale)
  form_node (forms.Name name) = record { called = Some name; range = known name }
  form_node (forms.Part whole axis) = unnamed (whole.range >>= part_range axis)
  form_node (forms.One op operand) = unnamed (operand.range >>= one_range op)
  form_node (forms.Two op left right) = unnamed (do
    a ← left.range
    b ← right.range
    two_range op (is_one_name left.called right.called) a b)
  form_node (forms.Three op first second third) = unnamed (do
    a ← first.range
    b ← second.range
    c ← third.range
    three_range op (is_one_name first.called second.called) a b c)
  form_node (forms.To k operand) = unnamed (operand.range >>= to_range k)

  abbrev pub node_by_form : Form → Node
  node_by_form = fold-Form Node Node form_node node_of_form

  abbrev pub node_of : Expr → Node
  node_of expr = node_by_form expr.form

  abbrev pub range_of : Expr → OrBad Range
  range_of expr = (node_of expr).range
