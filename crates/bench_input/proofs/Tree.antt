-- The tree of the benchmark's kernel. Places are those of its text.
use Rattle.std.proofs.Common.{ℕ, List, [], ◌∷◌, pos}
use Rattle.std.specs.Prelude.{codes}
use Rattle.kern_tree.specs.declared.expr.Expr.{Expr}
use Rattle.kern_tree.specs.declared.expr.Form.TheVariants as forms
use Rattle.kern_tree.specs.declared.expr.Op1.TheVariants as op1s
use Rattle.kern_tree.specs.declared.expr.Op2.TheVariants as op2s
use Rattle.kern_tree.specs.declared.expr.Op3.TheVariants as op3s
use Rattle.kern_tree.specs.declared.kernel.Combine.TheVariants as combines
use Rattle.kern_tree.specs.declared.kernel.Decl.{Decl}
use Rattle.kern_tree.specs.declared.kernel.DeclKind.TheVariants as declared_as
use Rattle.kern_tree.specs.declared.kernel.Kernel.{Kernel}
use Rattle.kern_tree.specs.declared.kernel.Kind.TheVariants as kinds_of
use Rattle.kern_tree.specs.declared.stmt.Act.TheVariants as acts
use Rattle.kern_tree.specs.declared.stmt.Stmt.{Stmt}
use Rattle.kern_tree.specs.Grammar.{node, stmt_node, decl_node}

abbrev pub name_node : ℕ → List ℕ → Expr
name_node place called = node place (forms.Name called)

abbrev pub xi_decl : Decl
xi_decl = decl_node 0 (codes "xi") (declared_as.Epi kinds_of.Vec3 0 (codes "pos"))

abbrev pub xj_decl : Decl
xj_decl = decl_node 21 (codes "xj") (declared_as.Epj kinds_of.Vec3 0 (codes "pos"))

abbrev pub mj_decl : Decl
mj_decl = decl_node 42 (codes "mj") (declared_as.Epj kinds_of.Num 0 (codes "mass"))

abbrev pub acc_decl : Decl
acc_decl = decl_node 64 (codes "acc") (declared_as.Force kinds_of.Vec3 16 combines.Sum)

abbrev pub g_decl : Decl
g_decl = decl_node 87 (codes "g") (declared_as.Param 16 (pos 72057594037927936))

abbrev pub e_decl : Decl
e_decl = decl_node 120 (codes "e") (declared_as.Param 0 (pos 1099511627776))

abbrev pub d_value : Expr
d_value = node 155 (forms.Two op2s.Sub (name_node 152 (codes "xj")) (name_node 157 (codes "xi")))

abbrev pub d_squared : Expr
d_squared = node 168 (forms.Two op2s.Mul (name_node 166 (codes "d")) (name_node 170 (codes "d")))

abbrev pub r2_value : Expr
r2_value = node 172 (forms.Two op2s.Add d_squared (name_node 174 (codes "e")))

abbrev pub r_value : Expr
r_value = node 181 (forms.One op1s.Isqrt (name_node 187 (codes "r2")))

abbrev pub over_r : Expr
over_r =
    node 206 (forms.Three op3s.Muldiv (name_node 213 (codes "g")) (name_node 216 (codes "mj")) (name_node 220 (codes "r")))

abbrev pub acc_value : Expr
acc_value = node 199 (forms.Three op3s.Muldiv over_r (name_node 224 (codes "d")) (name_node 227 (codes "r2")))

abbrev pub d_stmt : Stmt
d_stmt = stmt_node 148 (acts.Set (codes "d") d_value)

abbrev pub r2_stmt : Stmt
r2_stmt = stmt_node 161 (acts.Set (codes "r2") r2_value)

abbrev pub r_stmt : Stmt
r_stmt = stmt_node 177 (acts.Set (codes "r") r_value)

abbrev pub acc_stmt : Stmt
acc_stmt = stmt_node 192 (acts.Give (codes "acc") acc_value)

abbrev pub bench_kernel : Kernel
bench_kernel = record {
  decls = xi_decl ∷ xj_decl ∷ mj_decl ∷ acc_decl ∷ g_decl ∷ e_decl ∷ [];
  body = d_stmt ∷ r2_stmt ∷ r_stmt ∷ acc_stmt ∷ [];
}
