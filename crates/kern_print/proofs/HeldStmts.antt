-- Statements and declarations as they are written canonically.
use Rattle.std.proofs.Common.{ℕ, suc, ◌+◌, ◌<◌, ◌≤◌, ◌^◌, ℤ, pos, negsuc, List, [], ◌∷◌}
use Rattle.kern_token.specs.Pieces.{IsName}
use Rattle.kern_tree.specs.declared.expr.Expr.{Expr}
use Rattle.kern_tree.specs.declared.kernel.Combine.{Combine}
use Rattle.kern_tree.specs.declared.kernel.Decl.{Decl}
use Rattle.kern_tree.specs.declared.kernel.DeclKind.TheVariants as declared_as
use Rattle.kern_tree.specs.declared.kernel.Kind.{Kind}
use Rattle.kern_tree.specs.declared.stmt.Act.TheVariants as acts
use Rattle.kern_tree.specs.declared.stmt.Stmt.{Stmt}
use Rattle.kern_tree.specs.Grammar.{stmt_node, decl_node}
use Rattle.kern_print.proofs.Held.{Held}

mutual
  pub data HeldStmt : ℕ → Stmt → Type 0 where
    set : {depth place : ℕ} {n : List ℕ} {e : Expr} → IsName n → Held depth 1 e → HeldStmt depth (stmt_node place (acts.Set n e))
    give : {depth place : ℕ} {n : List ℕ} {e : Expr} → IsName n → Held depth 1 e → HeldStmt depth (stmt_node place (acts.Give n e))
    conditional : {depth place : ℕ} {c : Expr} {body others : List Stmt} → Held depth 1 c → depth < 32 → HeldBlock (depth + 1) body → HeldBlock (depth + 1) others → HeldStmt depth (stmt_node place (acts.If c body others))

  pub data HeldBlock : ℕ → List Stmt → Type 0 where
    done : {depth : ℕ} → HeldBlock depth []
    more : {depth : ℕ} {s : Stmt} {ss : List Stmt} → HeldStmt depth s → HeldBlock depth ss → HeldBlock depth (s ∷ ss)

-- a value that a PARAM can have
pub data Small : ℤ → Type 0 where
  plain : {n : ℕ} → n < 2 ^ 63 → Small (pos n)
  negative : {n : ℕ} → suc n < 2 ^ 63 → Small (negsuc n)

pub data HeldDecl : Decl → Type 0 where
  epi : {place bits : ℕ} {called field : List ℕ} {kind : Kind} → bits ≤ 62 → IsName called → IsName field → HeldDecl (decl_node place called (declared_as.Epi kind bits field))
  epj : {place bits : ℕ} {called field : List ℕ} {kind : Kind} → bits ≤ 62 → IsName called → IsName field → HeldDecl (decl_node place called (declared_as.Epj kind bits field))
  force : {place bits : ℕ} {called : List ℕ} {kind : Kind} {combine : Combine} → bits ≤ 62 → IsName called → HeldDecl (decl_node place called (declared_as.Force kind bits combine))
  param : {place bits : ℕ} {called : List ℕ} {value : ℤ} → bits ≤ 62 → IsName called → Small value → HeldDecl (decl_node place called (declared_as.Param bits value))

pub data HeldDecls : List Decl → Type 0 where
  done_decls : HeldDecls []
  more_decls : {d : Decl} {ds : List Decl} → HeldDecl d → HeldDecls ds → HeldDecls (d ∷ ds)
