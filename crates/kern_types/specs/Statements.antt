-- The checks of statements, and the scope after them.
use Rattle.std.specs.Prelude.{ℕ, ◌+◌, ◌==◌, List, [], ◌∷◌, ◌++◌, Option, Some, None, Ok, Err, flat_map, map, sum}
use Rattle.kern_tree.specs.declared.expr.Expr.{Expr}
use Rattle.kern_tree.specs.declared.kernel.Decl.{Decl}
use Rattle.kern_tree.specs.declared.kernel.DeclKind.{DeclKind}
use Rattle.kern_tree.specs.declared.kernel.DeclKind.TheVariants as declared_as
use Rattle.kern_tree.specs.declared.kernel.Kind.{Kind}
use Rattle.kern_tree.specs.declared.stmt.Act.{Act}
use Rattle.kern_tree.specs.declared.stmt.Act.TheFolds.{fold-Act}
use Rattle.kern_tree.specs.declared.stmt.Act.TheOpen.{Act-F, Stmt-F}
use Rattle.kern_tree.specs.declared.stmt.Act.TheOpen as acts
use Rattle.kern_tree.specs.declared.stmt.Stmt.{Stmt}
use Rattle.kern_tree.specs.Nodes.{act_nodes, stmt_step}
use Rattle.kern_types.specs.declared.expr_type.ExprType.{ExprType}
use Rattle.kern_types.specs.declared.expr_type.ExprType.TheVariants.{Scaled, Condition}
use Rattle.kern_types.specs.declared.fault.TypeFault.TheVariants as faults
use Rattle.kern_types.specs.Scopes.{Scope}
use Rattle.kern_types.specs.declared.scope.Variable.{Variable}
use Rattle.kern_types.specs.Declarations.{same_kind}
use Rattle.kern_types.specs.NameLists.{common}
use Rattle.kern_types.specs.Names.{declaration, earlier_assignment, type_of}
use Rattle.kern_types.specs.Steps.{OrFault, ◌>>=◌, ◌>>◌, Check, pass, unless}

-- what is assigned to has no declaration
abbrev pub target_check : ℕ → Option DeclKind → Check
target_check place None = pass
target_check place (Some (declared_as.Epi kind scale field)) = Err (faults.Twice place)
target_check place (Some (declared_as.Epj kind scale field)) = Err (faults.Twice place)
target_check place (Some (declared_as.Param scale value)) = Err (faults.Twice place)
target_check place (Some (declared_as.Force kind scale combine)) = Err (faults.Kind place)

-- of this kind and scale, and of the other
abbrev pub same_check : ℕ → Kind → ℕ → Kind → ℕ → Check
same_check place kind scale other_kind other_scale = do
  unless (same_kind kind other_kind) (faults.Kind place)
  unless (scale == other_scale) (faults.Scale place)

-- and is of the kind and the scale of the earlier assignment, if there is one
abbrev pub again_check : ℕ → Kind → ℕ → Option Variable → Check
again_check place kind scale None = pass
again_check place kind scale (Some variable) = same_check place variable.kind variable.scale kind scale

-- a contribution of this type to a force of this kind and scale
abbrev pub force_given : ℕ → Kind → ℕ → ExprType → Check
force_given place kind scale (Scaled own_kind own_scale) = same_check place kind scale own_kind own_scale
force_given place kind scale Condition = Err (faults.Kind place)

-- a contribution to a name without a declaration
abbrev pub undeclared_given : ℕ → Option Variable → Check
undeclared_given place None = Err (faults.Unknown place)
undeclared_given place (Some variable) = Err (faults.Kind place)

-- a contribution to a name of this declaration
abbrev pub given_check : ℕ → Option DeclKind → Option Variable → ExprType → Check
given_check place None variable type = undeclared_given place variable
given_check place (Some (declared_as.Force kind scale combine)) variable type = force_given place kind scale type
given_check place (Some (declared_as.Epi kind scale field)) variable type = Err (faults.Kind place)
given_check place (Some (declared_as.Epj kind scale field)) variable type = Err (faults.Kind place)
given_check place (Some (declared_as.Param scale value)) variable type = Err (faults.Kind place)

abbrev pub condition_check : ℕ → ExprType → Check
condition_check place Condition = pass
condition_check place (Scaled kind scale) = Err (faults.Kind place)

-- after a name is assigned a value of this kind and scale
abbrev pub with_assigned : Scope → List ℕ → Kind → ℕ → Scope
with_assigned scope name kind scale = record {
  earlier = scope.earlier ++ record { name = name; kind = kind; scale = scale } ∷ [];
  certain = scope.certain ++ name ∷ [];
}

-- what declares a name
abbrev pub what_declares : Option Decl → Option DeclKind
what_declares None = None
what_declares (Some decl) = Some decl.what

-- the scope after statements in a scope, or their first fault
abbrev pub ScopeChange : Type 0
ScopeChange = Scope → OrFault Scope

abbrev pub block_after : List ScopeChange → ScopeChange
block_after [] scope = Ok scope
block_after (stmt ∷ stmts) scope = do
  next ← stmt scope
  block_after stmts next

abbrev pub at_stmt_place : Stmt-F (ℕ → ScopeChange) ScopeChange → ScopeChange
at_stmt_place stmt = stmt.act stmt.place

-- Under these declarations.
module _ (decls : List Decl) where
  -- an assignment of a value of this kind and scale
  abbrev pub set_check : ℕ → List ℕ → Kind → ℕ → Scope → Check
  set_check place name kind scale scope = do
    target_check place (what_declares (declaration decls name))
    again_check place kind scale (earlier_assignment scope.earlier name)

  -- after an assignment of a value of this type
  abbrev pub set_after : ℕ → List ℕ → ExprType → ScopeChange
  set_after place name Condition scope = Err (faults.Kind place)
  set_after place name (Scaled kind scale) scope = do
    set_check place name kind scale scope
    Ok (with_assigned scope name kind scale)

  -- a contribution of a value of this type
  abbrev pub give_check : ℕ → List ℕ → Scope → ExprType → Check
  give_check place name scope type =
      given_check place (what_declares (declaration decls name)) (earlier_assignment scope.earlier name) type

  -- name = value;
  abbrev pub assignment_after : ℕ → List ℕ → Expr → ScopeChange
  assignment_after place name value scope = do
    type ← type_of decls scope value
    set_after place name type scope

  -- name += value;
  abbrev pub contribution_check : ℕ → List ℕ → Expr → Scope → Check
  contribution_check place name value scope = do
    type ← type_of decls scope value
    give_check place name scope type

  -- the expression of an `if`
  abbrev pub if_check : ℕ → Expr → Scope → Check
  if_check place condition scope = do
    type ← type_of decls scope condition
    condition_check place type

  -- The earlier assignments are those of the text; the certain names are those of every path.
  abbrev pub act_after : Act-F (ℕ → ScopeChange) ScopeChange → ℕ → ScopeChange
  act_after (acts.Set name value) place scope = assignment_after place name value scope
  act_after (acts.Give name value) place scope = do
    contribution_check place name value scope
    Ok scope
  act_after (acts.If condition block other) place scope = do
    if_check place condition scope
    first ← block_after block scope
    second ← block_after other (record { earlier = first.earlier; certain = scope.certain })
    Ok (record { earlier = second.earlier; certain = common first.certain second.certain })

  abbrev pub act_scope : Act → ℕ → ScopeChange
  act_scope = fold-Act (ℕ → ScopeChange) ScopeChange act_after at_stmt_place

  abbrev pub stmt_after : Stmt → ScopeChange
  stmt_after stmt = act_scope stmt.act stmt.place

  -- the scope after these statements, or their first fault
  abbrev pub stmts_after : List Stmt → ScopeChange
  stmts_after stmts = block_after (map stmt_after stmts)

-- ---- contributions

abbrev pub act_slots : Act-F ℕ ℕ → ℕ
act_slots (acts.Set name value) = 0
act_slots (acts.Give name value) = 1
act_slots (acts.If condition block other) = sum block + sum other

abbrev pub stmt_slots : Stmt-F ℕ ℕ → ℕ
stmt_slots stmt = stmt.act

abbrev pub slots_in_act : Act → ℕ
slots_in_act = fold-Act ℕ ℕ act_slots stmt_slots

-- the number of contributions in these statements
abbrev pub slots_in : List Stmt → ℕ
slots_in stmts = sum (map (λ stmt. slots_in_act stmt.act) stmts)

abbrev pub act_targets : Act-F (List (List ℕ)) (List (List ℕ)) → List (List ℕ)
act_targets (acts.Set name value) = []
act_targets (acts.Give name value) = name ∷ []
act_targets (acts.If condition body others) = flat_map (λ names. names) body ++ flat_map (λ names. names) others

abbrev pub stmt_targets : Stmt-F (List (List ℕ)) (List (List ℕ)) → List (List ℕ)
stmt_targets stmt = stmt.act

abbrev pub targets_in_act : Act → List (List ℕ)
targets_in_act = fold-Act (List (List ℕ)) (List (List ℕ)) act_targets stmt_targets

-- the names that the `+=` in these statements give to, in text order
abbrev pub targets_in : List Stmt → List (List ℕ)
targets_in stmts = flat_map (λ stmt. targets_in_act stmt.act) stmts

-- the nodes of a statement but its own
abbrev pub nodes_in_act : Act → List ℕ
nodes_in_act = fold-Act (List ℕ) (List ℕ) act_nodes stmt_step
