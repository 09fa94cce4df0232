-- What the names and the forms of a kernel are resolved to, in text order: what the executor reads beside the tree.
use Rattle.std.specs.Prelude.{ℕ, nat_lt, if◌then◌else◌, List, [], ◌∷◌, ◌++◌, length, take, drop, flat_map, map, slice_get, slice_set, Option, Some, None}
use Rattle.kern_tree.specs.declared.expr.Expr.{Expr}
use Rattle.kern_tree.specs.declared.expr.Form.TheFolds.{fold-Form}
use Rattle.kern_tree.specs.declared.expr.Form.TheOpen.{Form-F, Expr-F}
use Rattle.kern_tree.specs.declared.expr.Form.TheOpen as forms
use Rattle.kern_tree.specs.declared.kernel.Decl.{Decl}
use Rattle.kern_tree.specs.declared.kernel.Kernel.{Kernel}
use Rattle.kern_tree.specs.declared.stmt.Act.{Act}
use Rattle.kern_tree.specs.declared.stmt.Act.TheFolds.{fold-Act}
use Rattle.kern_tree.specs.declared.stmt.Act.TheOpen.{Act-F, Stmt-F}
use Rattle.kern_tree.specs.declared.stmt.Act.TheOpen as acts
use Rattle.kern_tree.specs.declared.stmt.Stmt.{Stmt}
use Rattle.kern_types.specs.declared.expr_type.ExprType.{ExprType}
use Rattle.kern_types.specs.Names.{declaration}
use Rattle.kern_meaning.specs.declared.link.Link.{Link}
use Rattle.kern_meaning.specs.declared.link.Link.TheVariants as links
use Rattle.kern_meaning.specs.declared.value.Value.{Value}
use Rattle.kern_meaning.specs.Pair.{force_type}
use Rattle.kern_meaning.specs.Variables.{variable_of, value_of_variable}
use Rattle.kern_meaning.specs.Walks.{number_of, value_at, names_of}
use Rattle.pf_model.specs.Particle.{Particle}
use Rattle.pf_model.specs.Totals.{Source}

-- ---- parts

-- links with their count before them
abbrev pub with_count : List Link → List Link
with_count part = links.Count (length part) ∷ part

-- the links that are counted first, and those after them
abbrev pub first_part : List Link → List Link
first_part (links.Count n ∷ others) = take n others
first_part _ = []

abbrev pub other_part : List Link → List Link
other_part (links.Count n ∷ others) = drop n others
other_part _ = []

-- the number of the name that stands first
abbrev pub assigned_number : List Link → Option ℕ
assigned_number (links.Assigned n ∷ others) = Some n
assigned_number _ = None

-- the type of the FORCE variable that stands first
abbrev pub force_at : List Link → Option ExprType
force_at (links.Force type ∷ others) = type
force_at _ = None

-- the value of the name that stands first
abbrev pub value_by : Particle → Source → List (Option Value) → List Link → Option Value
value_by i j values (links.Assigned n ∷ others) = value_at (slice_get values n)
value_by i j values (links.Declared variable ∷ others) = value_of_variable i j variable
value_by i j values _ = None

-- the values after the name of this number is assigned
abbrev pub assigned : List (Option Value) → Option ℕ → Value → List (Option Value)
assigned values None value = values
assigned values (Some n) value = slice_set values n (Some value)

-- ---- the text

abbrev pub stmt_links : Stmt-F (List Link) (List Link) → List Link
stmt_links stmt = stmt.act

abbrev pub all_counted : List (List Link) → List Link
all_counted parts = flat_map (λ part. with_count part) parts

abbrev pub expr_links : Expr-F (List Link) (List Link) → List Link
expr_links expr = expr.form

module _ (names : List (List ℕ)) (decls : List Decl) where
  -- a name by its number where it is assigned, else by its declaration
  abbrev pub link_of : List ℕ → Link
  link_of name =
      if nat_lt (number_of names name) (length names) then links.Assigned (number_of names name)
      else links.Declared (variable_of (declaration decls name))

  -- of several operands each but the last is counted
  abbrev pub form_links : Form-F (List Link) (List Link) → List Link
  form_links (forms.Number mantissa scale) = []
  form_links (forms.Name name) = link_of name ∷ []
  form_links (forms.Part whole axis) = whole
  form_links (forms.One op operand) = operand
  form_links (forms.Two op left right) = with_count left ++ right
  form_links (forms.Three op first second third) = with_count first ++ (with_count second ++ third)
  form_links (forms.To k operand) = operand

  abbrev pub links_of : Expr → List Link
  links_of expr = fold-Form (List Link) (List Link) form_links expr_links expr.form

  -- ---- statements

  abbrev pub act_links : Act-F (List Link) (List Link) → List Link
  act_links (acts.Set name value) = links.Assigned (number_of names name) ∷ links_of value
  act_links (acts.Give name value) = links.Force (force_type (declaration decls name)) ∷ links_of value
  act_links (acts.If condition body others) =
      with_count (links_of condition) ++ (with_count (all_counted body) ++ all_counted others)

  abbrev pub links_of_act : Act → List Link
  links_of_act = fold-Act (List Link) (List Link) act_links stmt_links

  abbrev pub links_of_block : List Stmt → List Link
  links_of_block stmts = all_counted (map (λ stmt. links_of_act stmt.act) stmts)

abbrev pub links_of_kernel : Kernel → List Link
links_of_kernel kernel = links_of_block (names_of kernel) kernel.decls kernel.body
