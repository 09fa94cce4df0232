-- The limits of numbers, scales and nodes, which every kernel that parsing can give keeps.
use Rattle.std.specs.Prelude.{ℕ, ◌<◌, ◌≤◌, ◌^◌, FitsSigned, List, [], ◌∷◌, length}
use Rattle.std.specs.Int.{w64}
use Rattle.std.specs.List.{AllByRecursion}
use Rattle.kern_token.specs.declared.limits.TheConstants.{MOST_SCALE}
use Rattle.kern_tree.specs.declared.expr.Expr.{Expr}
use Rattle.kern_tree.specs.declared.expr.Form.TheVariants as forms
use Rattle.kern_tree.specs.declared.expr.Op1.{Op1}
use Rattle.kern_tree.specs.declared.expr.Op2.{Op2}
use Rattle.kern_tree.specs.declared.expr.Op3.{Op3}
use Rattle.kern_tree.specs.declared.kernel.Decl.{Decl}
use Rattle.kern_tree.specs.declared.kernel.DeclKind.{DeclKind}
use Rattle.kern_tree.specs.declared.kernel.DeclKind.TheVariants as declared_as
use Rattle.kern_tree.specs.declared.kernel.Kernel.{Kernel}
use Rattle.kern_tree.specs.declared.limits.TheConstants.{MOST_NODES}
use Rattle.kern_tree.specs.declared.stmt.Act.TheVariants as acts
use Rattle.kern_tree.specs.declared.stmt.Stmt.{Stmt}
use Rattle.kern_tree.specs.Grammar.{node, stmt_node}
use Rattle.kern_tree.specs.Nodes.{kernel_nodes}
use Rattle.kern_tree.specs.Parsed.{IsParsed}
use Rattle.pf_geom.specs.declared.axis.Axis.{Axis}

-- each literal in it is an i64, of a scale within the limit
pub data IsLimited : Expr → Type 0 where
  literal : {place mantissa scale : ℕ} → mantissa < 2 ^ 63 → scale ≤ MOST_SCALE
      → IsLimited (node place (forms.Number mantissa scale))
  name : {place : ℕ} {called : List ℕ} → IsLimited (node place (forms.Name called))
  part : {place : ℕ} {a : Expr} {axis : Axis} → IsLimited a → IsLimited (node place (forms.Part a axis))
  one : {place : ℕ} {op : Op1} {a : Expr} → IsLimited a → IsLimited (node place (forms.One op a))
  two : {place : ℕ} {op : Op2} {a b : Expr} → IsLimited a → IsLimited b → IsLimited (node place (forms.Two op a b))
  three : {place : ℕ} {op : Op3} {a b c : Expr} → IsLimited a → IsLimited b → IsLimited c
      → IsLimited (node place (forms.Three op a b c))
  to : {place scale : ℕ} {a : Expr} → IsLimited a → IsLimited (node place (forms.To scale a))

mutual
  -- so is each expression of the statement
  pub data IsLimitedStmt : Stmt → Type 0 where
    set : {place : ℕ} {name : List ℕ} {value : Expr} → IsLimited value
        → IsLimitedStmt (stmt_node place (acts.Set name value))
    give : {place : ℕ} {name : List ℕ} {value : Expr} → IsLimited value
        → IsLimitedStmt (stmt_node place (acts.Give name value))
    conditional : {place : ℕ} {condition : Expr} {body others : List Stmt} → IsLimited condition → IsLimitedBlock body
        → IsLimitedBlock others → IsLimitedStmt (stmt_node place (acts.If condition body others))

  pub data IsLimitedBlock : List Stmt → Type 0 where
    none : IsLimitedBlock []
    more : {stmt : Stmt} {stmts : List Stmt} → IsLimitedStmt stmt → IsLimitedBlock stmts → IsLimitedBlock (stmt ∷ stmts)

-- the scale that is declared
abbrev pub scale_declared : DeclKind → ℕ
scale_declared (declared_as.Epi kind scale field) = scale
scale_declared (declared_as.Epj kind scale field) = scale
scale_declared (declared_as.Force kind scale combine) = scale
scale_declared (declared_as.Param scale value) = scale

abbrev pub HasLimitedScale : Decl → Type 0
HasLimitedScale decl = scale_declared decl.what ≤ MOST_SCALE

abbrev pub IsLimitedValue : DeclKind → Type 0
IsLimitedValue (declared_as.Param scale value) = FitsSigned w64 value
IsLimitedValue _ = Unit {0}

-- the value of a PARAM is an i64
abbrev pub HasLimitedValue : Decl → Type 0
HasLimitedValue decl = IsLimitedValue decl.what

pub record KeepsLimits (kernel : Kernel) : Type 0 where
  pub decls : AllByRecursion HasLimitedScale kernel.decls
  pub values : AllByRecursion HasLimitedValue kernel.decls
  pub body : IsLimitedBlock kernel.body
  pub few : length (kernel_nodes kernel) ≤ MOST_NODES

-- a kernel that was parsed keeps these limits
abbrev pub ParsedKernelsKeepLimits : Type 0
ParsedKernelsKeepLimits = (kernel : Kernel) → IsParsed kernel → KeepsLimits kernel
