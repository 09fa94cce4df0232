-- The benchmark's kernel is well typed: its types, form by form.
use Rattle.std.proofs.Common.{◌≡◌, ℕ, List, [], ◌∷◌, Ok, refl, ap, ◌∙◌}
use Rattle.std.specs.Prelude.{codes}
use Rattle.kern_tree.specs.declared.expr.Expr.{Expr}
use Rattle.kern_tree.specs.declared.expr.Form.TheOpen as layers
use Rattle.kern_tree.specs.declared.expr.Form.TheVariants as forms
use Rattle.kern_tree.specs.declared.expr.Op1.{Op1}
use Rattle.kern_tree.specs.declared.expr.Op1.TheVariants as op1s
use Rattle.kern_tree.specs.declared.expr.Op2.{Op2}
use Rattle.kern_tree.specs.declared.expr.Op2.TheVariants as op2s
use Rattle.kern_tree.specs.declared.expr.Op3.{Op3}
use Rattle.kern_tree.specs.declared.expr.Op3.TheVariants as op3s
use Rattle.kern_tree.specs.declared.kernel.Decl.{Decl}
use Rattle.kern_tree.specs.declared.kernel.Kind.{Kind}
use Rattle.kern_tree.specs.declared.kernel.Kind.TheVariants.{Num, Vec3}
use Rattle.kern_tree.specs.declared.stmt.Act.TheVariants as acts
use Rattle.kern_tree.specs.declared.stmt.Stmt.{Stmt}
use Rattle.kern_tree.specs.Grammar.{node, stmt_node}
use Rattle.kern_tree.proofs.Layers.{name_layer, one_layer, two_layer, three_layer, set_layer, give_layer}
use Rattle.kern_types.specs.declared.expr_type.ExprType.{ExprType}
use Rattle.kern_types.specs.declared.expr_type.ExprType.TheVariants.{Scaled}
use Rattle.kern_types.specs.Forms.{one_type, two_type, three_type}
use Rattle.kern_types.specs.Names.{at_place, form_typing, name_type, type_of}
use Rattle.kern_types.specs.Scopes.{Scope}
use Rattle.kern_types.specs.Statements.{act_after, at_stmt_place, give_check, set_after, set_check, stmt_after, stmts_after, with_assigned}
use Rattle.kern_types.specs.Steps.{◌>>=◌, ◌>>◌, pass}
use Rattle.kern_types.specs.WellTyped.{WellTyped, at_start}
use Rattle.bench_input.proofs.Tree.{bench_kernel, name_node, d_value, d_squared, r2_value, r_value, over_r, acc_value, d_stmt, r2_stmt, r_stmt, acc_stmt}

-- ---- expressions

module _ (decls : List Decl) (scope : Scope) where
  name_typed : (place : ℕ) (called : List ℕ) (t : ExprType) → name_type decls scope place called ≡ Ok t → type_of decls scope (name_node place called) ≡ Ok t
  name_typed place called t h = ap (λ f. f place) (name_layer (form_typing decls scope) at_place called) ∙ h

  one_typed : (place : ℕ) (op : Op1) (a : Expr) (s t : ExprType) → type_of decls scope a ≡ Ok s → one_type place op s ≡ Ok t → type_of decls scope (node place (forms.One op a)) ≡ Ok t
  one_typed place op a s t h k =
      ap (λ f. f place) (one_layer (form_typing decls scope) at_place op a) ∙ (λ i. form_typing decls scope (layers.One op (h i)) place) ∙ k

  two_typed : (place : ℕ) (op : Op2) (a b : Expr) (s t u : ExprType) → type_of decls scope a ≡ Ok s → type_of decls scope b ≡ Ok t → two_type place op s t ≡ Ok u
      → type_of decls scope (node place (forms.Two op a b)) ≡ Ok u
  two_typed place op a b s t u h k l =
      ap (λ f. f place) (two_layer (form_typing decls scope) at_place op a b) ∙ (λ i. form_typing decls scope (layers.Two op (h i) (k i)) place) ∙ l

  three_typed : (place : ℕ) (op : Op3) (a b c : Expr) (s t u v : ExprType) → type_of decls scope a ≡ Ok s → type_of decls scope b ≡ Ok t → type_of decls scope c ≡ Ok u → three_type place op s t u ≡ Ok v
      → type_of decls scope (node place (forms.Three op a b c)) ≡ Ok v
  three_typed place op a b c s t u v h k l m =
      ap (λ f. f place) (three_layer (form_typing decls scope) at_place op a b c) ∙ (λ i. form_typing decls scope (layers.Three op (h i) (k i) (l i)) place) ∙ m

-- ---- statements

module _ (decls : List Decl) where
  set_typed : (scope : Scope) (place : ℕ) (name : List ℕ) (value : Expr) (kind : Kind) (scale : ℕ) → type_of decls scope value ≡ Ok (Scaled kind scale) → set_check decls place name kind scale scope ≡ pass
      → stmt_after decls (stmt_node place (acts.Set name value)) scope ≡ Ok (with_assigned scope name kind scale)
  set_typed scope place name value kind scale h k =
      ap (λ f. f place scope) (set_layer (act_after decls) at_stmt_place name value)
      ∙ ap (λ type. type >>= (λ t. set_after decls place name t scope)) h ∙ ap (λ check. check >> Ok (with_assigned scope name kind scale)) k

  give_typed : (scope : Scope) (place : ℕ) (name : List ℕ) (value : Expr) (t : ExprType) → type_of decls scope value ≡ Ok t → give_check decls place name scope t ≡ pass
      → stmt_after decls (stmt_node place (acts.Give name value)) scope ≡ Ok scope
  give_typed scope place name value t h k =
      ap (λ f. f place scope) (give_layer (act_after decls) at_stmt_place name value)
      ∙ ap (λ type. (type >>= (λ u. give_check decls place name scope u)) >> Ok scope) h ∙ ap (λ check. check >> Ok scope) k

  then : (s : Stmt) (ss : List Stmt) (scope next end : Scope) → stmt_after decls s scope ≡ Ok next → stmts_after decls ss next ≡ Ok end → stmts_after decls (s ∷ ss) scope ≡ Ok end
  then s ss scope next end h k = ap (λ after. after >>= (λ n. stmts_after decls ss n)) h ∙ k

-- ---- the kernel

abbrev decls : List Decl
decls = bench_kernel.decls

abbrev with_d : Scope
with_d = with_assigned at_start (codes "d") Vec3 0

abbrev with_r2 : Scope
with_r2 = with_assigned with_d (codes "r2") Num 0

abbrev with_r : Scope
with_r = with_assigned with_r2 (codes "r") Num 0

d_typed : type_of decls at_start d_value ≡ Ok (Scaled Vec3 0)
d_typed =
    two_typed decls at_start 155 op2s.Sub (name_node 152 (codes "xj")) (name_node 157 (codes "xi")) (Scaled Vec3 0) (Scaled Vec3 0) (Scaled Vec3 0)
    (name_typed decls at_start 152 (codes "xj") (Scaled Vec3 0) refl) (name_typed decls at_start 157 (codes "xi") (Scaled Vec3 0) refl) refl

squared_typed : type_of decls with_d d_squared ≡ Ok (Scaled Num 0)
squared_typed =
    two_typed decls with_d 168 op2s.Mul (name_node 166 (codes "d")) (name_node 170 (codes "d")) (Scaled Vec3 0) (Scaled Vec3 0) (Scaled Num 0)
    (name_typed decls with_d 166 (codes "d") (Scaled Vec3 0) refl) (name_typed decls with_d 170 (codes "d") (Scaled Vec3 0) refl) refl

r2_typed : type_of decls with_d r2_value ≡ Ok (Scaled Num 0)
r2_typed =
    two_typed decls with_d 172 op2s.Add d_squared (name_node 174 (codes "e")) (Scaled Num 0) (Scaled Num 0) (Scaled Num 0)
    squared_typed (name_typed decls with_d 174 (codes "e") (Scaled Num 0) refl) refl

r_typed : type_of decls with_r2 r_value ≡ Ok (Scaled Num 0)
r_typed =
    one_typed decls with_r2 181 op1s.Isqrt (name_node 187 (codes "r2")) (Scaled Num 0) (Scaled Num 0)
    (name_typed decls with_r2 187 (codes "r2") (Scaled Num 0) refl) refl

over_r_typed : type_of decls with_r over_r ≡ Ok (Scaled Num 16)
over_r_typed =
    three_typed decls with_r 206 op3s.Muldiv (name_node 213 (codes "g")) (name_node 216 (codes "mj")) (name_node 220 (codes "r")) (Scaled Num 16) (Scaled Num 0) (Scaled Num 0) (Scaled Num 16)
    (name_typed decls with_r 213 (codes "g") (Scaled Num 16) refl) (name_typed decls with_r 216 (codes "mj") (Scaled Num 0) refl) (name_typed decls with_r 220 (codes "r") (Scaled Num 0) refl) refl

acc_typed : type_of decls with_r acc_value ≡ Ok (Scaled Vec3 16)
acc_typed =
    three_typed decls with_r 199 op3s.Muldiv over_r (name_node 224 (codes "d")) (name_node 227 (codes "r2")) (Scaled Num 16) (Scaled Vec3 0) (Scaled Num 0) (Scaled Vec3 16)
    over_r_typed (name_typed decls with_r 224 (codes "d") (Scaled Vec3 0) refl) (name_typed decls with_r 227 (codes "r2") (Scaled Num 0) refl) refl

pub kernel_typed : WellTyped bench_kernel
kernel_typed = (
  with_r,
  then decls d_stmt (r2_stmt ∷ r_stmt ∷ acc_stmt ∷ []) at_start with_d with_r (set_typed decls at_start 148 (codes "d") d_value Vec3 0 d_typed refl)
      (then decls r2_stmt (r_stmt ∷ acc_stmt ∷ []) with_d with_r2 with_r (set_typed decls with_d 161 (codes "r2") r2_value Num 0 r2_typed refl)
      (then decls r_stmt (acc_stmt ∷ []) with_r2 with_r with_r (set_typed decls with_r2 177 (codes "r") r_value Num 0 r_typed refl)
      (then decls acc_stmt [] with_r with_r with_r (give_typed decls with_r 192 (codes "acc") acc_value (Scaled Vec3 16) acc_typed refl) refl))),
)
