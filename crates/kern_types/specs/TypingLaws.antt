-- What holds of typed kernels.
use Rattle.std.specs.Prelude.{◌≡◌, ℕ, ◌+◌, ◌≤◌, ◌||◌, List, Option, Some, None, Ok, Err, length}
use Rattle.std.specs.List.{AllByRecursion}
use Rattle.kern_token.specs.declared.limits.TheConstants.{MOST_SCALE}
use Rattle.kern_tree.specs.declared.expr.Expr.{Expr}
use Rattle.kern_tree.specs.declared.kernel.Decl.{Decl}
use Rattle.kern_tree.specs.declared.kernel.Kernel.{Kernel}
use Rattle.kern_tree.specs.declared.kernel.Kind.{Kind}
use Rattle.kern_tree.specs.declared.limits.TheConstants.{MOST_NODES}
use Rattle.kern_tree.specs.declared.stmt.Stmt.{Stmt}
use Rattle.kern_tree.specs.Limits.{IsLimited, IsLimitedBlock}
use Rattle.kern_tree.specs.Parsed.{IsParsed}
use Rattle.kern_types.specs.declared.expr_type.ExprType.{ExprType}
use Rattle.kern_types.specs.declared.expr_type.ExprType.TheVariants.{Scaled, Condition}
use Rattle.kern_types.specs.declared.scope.Variable.{Variable}
use Rattle.kern_types.specs.Declarations.{forces_of, force_type, what_check}
use Rattle.kern_types.specs.NameLists.{is_among}
use Rattle.kern_types.specs.Names.{declaration, earlier_assignment, type_of}
use Rattle.kern_types.specs.Paths.{paths_through, all_assign}
use Rattle.kern_types.specs.Scopes.{Scope, Grows}
use Rattle.kern_types.specs.Statements.{assignment_after, contribution_check, slots_in, stmts_after, targets_in}
use Rattle.kern_types.specs.Statements.{with_assigned}
use Rattle.kern_types.specs.Steps.{OrFault, pass}
use Rattle.kern_types.specs.WellTyped.{WellTyped, kernel_after}

-- ---- limits

-- each FORCE variable and each contribution is a node
abbrev pub ForcesAndSlotsAreFew : Type 0
ForcesAndSlotsAreFew =
    (kernel : Kernel) → IsParsed kernel → length (forces_of kernel.decls) + slots_in kernel.body ≤ MOST_NODES

-- ---- declarations

-- a name is declared once
abbrev pub NamesAreDeclaredOnce : Type 0
NamesAreDeclaredOnce =
    (kernel : Kernel) → WellTyped kernel
    → AllByRecursion (λ decl. declaration kernel.decls decl.name ≡ Some decl) kernel.decls

-- what is declared has passed its check: a field is there, and is of the kind and the scale; only a num is max or min
abbrev pub DeclarationsFit : Type 0
DeclarationsFit =
    (kernel : Kernel) → WellTyped kernel
    → (name : List ℕ) (decl : Decl) → declaration kernel.decls name ≡ Some decl → what_check decl.place decl.what ≡ pass

-- ---- statements

-- Statements of a kernel, which end without a fault in a scope where they began in another.
abbrev pub WhereStatementsEnd : (List Decl → List Stmt → Scope → Scope → Type 0) → Type 0
WhereStatementsEnd Holds =
    (decls : List Decl) (stmts : List Stmt) (before after : Scope) → IsLimitedBlock stmts
    → stmts_after decls stmts before ≡ Ok after → Holds decls stmts before after

-- no assignment is forgotten
abbrev pub ScopesOnlyGrow : Type 0
ScopesOnlyGrow = WhereStatementsEnd (λ decls stmts before after. Grows before.earlier after.earlier)

-- growth is an order
pub record GrowthIsAnOrder : Type 0 where
  pub none : (earlier : List Variable) → Grows earlier earlier
  pub then : (a b c : List Variable) → Grows a b → Grows b c → Grows a c

-- what is certain after statements was so before them, or is assigned on every path through them
abbrev pub CertainIsOnEveryPath : Type 0
CertainIsOnEveryPath =
    WhereStatementsEnd (λ decls stmts before after.
    (name : List ℕ)
    → is_among after.certain name ≡ (is_among before.certain name || all_assign (paths_through stmts) name))

-- so at the end of a kernel just those names are certain that are assigned on every path
abbrev pub CertainAtTheEnd : Type 0
CertainAtTheEnd =
    (kernel : Kernel) (end : Scope) → IsParsed kernel → kernel_after kernel ≡ Ok end
    → (name : List ℕ) → is_among end.certain name ≡ all_assign (paths_through kernel.body) name

-- An assignment of a value with a kind and a scale, to a name that is not declared. The scope after it has it.
pub record IsAssignment (decls : List Decl) (name : List ℕ) (value : Expr) (before after : Scope) : Type 0 where
  pub kind : Kind
  pub scale : ℕ
  pub typed : type_of decls before value ≡ Ok (Scaled kind scale)
  pub undeclared : declaration decls name ≡ None
  pub ends : after ≡ with_assigned before name kind scale

abbrev pub AssignmentsFit : Type 0
AssignmentsFit =
    (decls : List Decl) (place : ℕ) (name : List ℕ) (value : Expr) (before after : Scope)
    → assignment_after decls place name value before ≡ Ok after → IsAssignment decls name value before after

-- of this kind and scale
abbrev pub HasTypeOf : Option Variable → Variable → Type 0
HasTypeOf None variable = ⊥
HasTypeOf (Some first) variable = (first.kind ≡ variable.kind) × (first.scale ≡ variable.scale)

-- every assignment has the kind and the scale of the earliest one to its name
abbrev pub HaveOneType : List Variable → Type 0
HaveOneType earlier =
    AllByRecursion (λ variable. HasTypeOf (earlier_assignment earlier variable.name) variable) earlier

abbrev pub NamesKeepTheirType : Type 0
NamesKeepTheirType =
    (kernel : Kernel) (end : Scope) → IsParsed kernel → kernel_after kernel ≡ Ok end → HaveOneType end.earlier

-- ---- scales

abbrev pub HasFittingScale : ExprType → Type 0
HasFittingScale (Scaled kind scale) = scale ≤ MOST_SCALE
HasFittingScale Condition = Unit {0}

abbrev pub FitsIfTyped : OrFault ExprType → Type 0
FitsIfTyped (Ok type) = HasFittingScale type
FitsIfTyped (Err fault) = Unit {0}

abbrev pub AreFitting : List Variable → Type 0
AreFitting earlier = AllByRecursion (λ variable. variable.scale ≤ MOST_SCALE) earlier

-- the scale of an expression is within the limit where those of the assignments before it are
abbrev pub ExpressionScalesFit : Type 0
ExpressionScalesFit =
    (kernel : Kernel) → IsParsed kernel
    → (scope : Scope) (e : Expr) → AreFitting scope.earlier → IsLimited e → FitsIfTyped (type_of kernel.decls scope e)

-- and so they are, to the end of the kernel
abbrev pub AssignedScalesFit : Type 0
AssignedScalesFit =
    (kernel : Kernel) (end : Scope) → IsParsed kernel → kernel_after kernel ≡ Ok end → AreFitting end.earlier

-- ---- contributions

-- a contribution goes to a FORCE variable, and is of its kind and scale
abbrev pub ContributionsFit : Type 0
ContributionsFit =
    (decls : List Decl) (place : ℕ) (name : List ℕ) (value : Expr) (scope : Scope)
    → contribution_check decls place name value scope ≡ pass
    → (kind : Kind)
    × (scale : ℕ)
    × (type_of decls scope value ≡ Ok (Scaled kind scale))
    × (force_type (declaration decls name) ≡ Some (Scaled kind scale))

-- each slot has a FORCE variable: the one that its `+=` names
pub record HaveForces (kernel : Kernel) : Type 0 where
  pub each : length (targets_in kernel.body) ≡ slots_in kernel.body
  pub forces :
      AllByRecursion (λ name. (type : ExprType) × (force_type (declaration kernel.decls name) ≡ Some type))
      (targets_in kernel.body)

abbrev pub SlotsHaveForces : Type 0
SlotsHaveForces = (kernel : Kernel) → IsParsed kernel → WellTyped kernel → HaveForces kernel
