-- The nodes of a kernel in text order, each by the place of its token.
use Rattle.std.specs.Prelude.{◌≡◌, ℕ, List, [], ◌∷◌, ◌++◌, flat_map}
use Rattle.kern_tree.specs.declared.expr.Expr.{Expr, fold-Expr}
use Rattle.kern_tree.specs.declared.expr.Form.TheOpen.{Form-F, Expr-F}
use Rattle.kern_tree.specs.declared.expr.Form.TheVariants as forms
use Rattle.kern_tree.specs.declared.expr.Op1.{Op1}
use Rattle.kern_tree.specs.declared.expr.Op2.{Op2}
use Rattle.kern_tree.specs.declared.expr.Op2.TheVariants as op2s
use Rattle.kern_tree.specs.declared.expr.Op3.{Op3}
use Rattle.kern_tree.specs.declared.kernel.Kernel.{Kernel}
use Rattle.kern_tree.specs.declared.stmt.Act.TheOpen.{Act-F, Stmt-F}
use Rattle.kern_tree.specs.declared.stmt.Act.TheVariants as acts
use Rattle.kern_tree.specs.declared.stmt.Stmt.{Stmt, fold-Stmt}
use Rattle.pf_geom.specs.declared.axis.Axis.{Axis}
use Rattle.kern_tree.specs.Grammar.{node, stmt_node}

-- `min` and `max` stand before their operands, each other operator between them
abbrev pub two_nodes : Op2 → ℕ → List ℕ → List ℕ → List ℕ
two_nodes op2s.Least place left right = place ∷ (left ++ right)
two_nodes op2s.Most place left right = place ∷ (left ++ right)
two_nodes _ place left right = left ++ place ∷ right

-- of a form whose node stands at this place, each operand already seen as its nodes
abbrev pub form_nodes : Form-F (ℕ → List ℕ) (List ℕ) → ℕ → List ℕ
form_nodes (Form-F.Number value bits) place = place ∷ []
form_nodes (Form-F.Name called) place = place ∷ []
form_nodes (Form-F.Part whole along) place = whole ++ place ∷ []
form_nodes (Form-F.One op operand) place = place ∷ operand
form_nodes (Form-F.Two op left right) place = two_nodes op place left right
form_nodes (Form-F.Three op a b c) place = place ∷ (a ++ b ++ c)
form_nodes (Form-F.To bits operand) place = place ∷ operand

abbrev pub expr_step : Expr-F (ℕ → List ℕ) (List ℕ) → List ℕ
expr_step e = e.form e.place

abbrev pub expr_nodes : Expr → List ℕ
expr_nodes = fold-Expr (ℕ → List ℕ) (List ℕ) form_nodes expr_step

-- of what a statement does, each statement in it already seen as its nodes
abbrev pub act_nodes : Act-F (List ℕ) (List ℕ) → List ℕ
act_nodes (Act-F.Set target value) = expr_nodes value
act_nodes (Act-F.Give target value) = expr_nodes value
act_nodes (Act-F.If condition body others) = expr_nodes condition ++ flat_map (λ s. s) body ++ flat_map (λ s. s) others

abbrev pub stmt_step : Stmt-F (List ℕ) (List ℕ) → List ℕ
stmt_step s = s.place ∷ s.act

abbrev pub stmt_nodes : Stmt → List ℕ
stmt_nodes = fold-Stmt (List ℕ) (List ℕ) act_nodes stmt_step

abbrev pub kernel_nodes : Kernel → List ℕ
kernel_nodes kernel = flat_map (λ d. d.place ∷ []) kernel.decls ++ flat_map stmt_nodes kernel.body

-- the nodes of an expression by its form, and of a statement by what it does
pub record NodesByForm : Type 0 where
  pub number : (place value bits : ℕ) → expr_nodes (node place (forms.Number value bits)) ≡ place ∷ []
  pub name : (place : ℕ) (called : List ℕ) → expr_nodes (node place (forms.Name called)) ≡ place ∷ []
  pub part : (place : ℕ) (whole : Expr) (along : Axis)
      → expr_nodes (node place (forms.Part whole along)) ≡ expr_nodes whole ++ place ∷ []
  pub one : (place : ℕ) (op : Op1) (a : Expr) → expr_nodes (node place (forms.One op a)) ≡ place ∷ expr_nodes a
  pub two : (place : ℕ) (op : Op2) (a b : Expr)
      → expr_nodes (node place (forms.Two op a b)) ≡ two_nodes op place (expr_nodes a) (expr_nodes b)
  pub three : (place : ℕ) (op : Op3) (a b c : Expr)
      → expr_nodes (node place (forms.Three op a b c)) ≡ place ∷ (expr_nodes a ++ expr_nodes b ++ expr_nodes c)
  pub to : (place bits : ℕ) (a : Expr) → expr_nodes (node place (forms.To bits a)) ≡ place ∷ expr_nodes a
  pub set : (place : ℕ) (target : List ℕ) (value : Expr)
      → stmt_nodes (stmt_node place (acts.Set target value)) ≡ place ∷ expr_nodes value
  pub give : (place : ℕ) (target : List ℕ) (value : Expr)
      → stmt_nodes (stmt_node place (acts.Give target value)) ≡ place ∷ expr_nodes value
  pub conditional : (place : ℕ) (condition : Expr) (body others : List Stmt)
      → stmt_nodes (stmt_node place (acts.If condition body others))
      ≡ place ∷ (expr_nodes condition ++ flat_map stmt_nodes body ++ flat_map stmt_nodes others)
