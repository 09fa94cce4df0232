-- A kernel without the places of its nodes.
use Rattle.std.specs.Prelude.{map}
use Rattle.kern_tree.specs.declared.expr.Expr.{Expr, fold-Expr}
use Rattle.kern_tree.specs.declared.expr.Form.{Form, roll-Form}
use Rattle.kern_tree.specs.declared.expr.Form.TheOpen.{Expr-F}
use Rattle.kern_tree.specs.declared.kernel.Decl.{Decl}
use Rattle.kern_tree.specs.declared.kernel.Kernel.{Kernel}
use Rattle.kern_tree.specs.declared.stmt.Act.{Act}
use Rattle.kern_tree.specs.declared.stmt.Act.TheOpen.{Act-F, Stmt-F}
use Rattle.kern_tree.specs.declared.stmt.Act.TheVariants as acts
use Rattle.kern_tree.specs.declared.stmt.Stmt.{Stmt, fold-Stmt}
use Rattle.kern_tree.specs.Grammar.{node, stmt_node}

-- Place 0 stands for every place.
abbrev pub expr_at_zero : Expr-F Form Expr → Expr
expr_at_zero e = node 0 e.form

abbrev pub expr_without_places : Expr → Expr
expr_without_places = fold-Expr Form Expr roll-Form expr_at_zero

abbrev pub act_without_places : Act-F Act Stmt → Act
act_without_places (Act-F.Set target value) = acts.Set target (expr_without_places value)
act_without_places (Act-F.Give target value) = acts.Give target (expr_without_places value)
act_without_places (Act-F.If condition body others) = acts.If (expr_without_places condition) body others

abbrev pub stmt_at_zero : Stmt-F Act Stmt → Stmt
stmt_at_zero s = stmt_node 0 s.act

abbrev pub stmt_without_places : Stmt → Stmt
stmt_without_places = fold-Stmt Act Stmt act_without_places stmt_at_zero

abbrev pub decl_without_places : Decl → Decl
decl_without_places d = record { place = 0; name = d.name; what = d.what }

abbrev pub without_places : Kernel → Kernel
without_places k = record { decls = map decl_without_places k.decls; body = map stmt_without_places k.body }
