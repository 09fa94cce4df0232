-- What a statement was read as.
use Rattle.std.specs.Prelude.{◌≡◌, ℕ, zero, suc, ◌-◌, ◌<◌, ◌≤◌, List, [], ◌∷◌, length, Bool, true, false, Option, Some}
use Rattle.std.specs.Prelude.{None}
use Rattle.kern_token.specs.declared.token.Symbol.TheVariants as symbols
use Rattle.kern_token.specs.declared.token.Word.TheVariants as words
use Rattle.kern_tree.specs.declared.limits.TheConstants.{MOST_OPEN}
use Rattle.kern_tree.specs.declared.stmt.Stmt.{Stmt}
use Rattle.kern_tree.specs.Grammar.{block, stmt_within}
use Rattle.kern_tree.specs.Rules.{Rule, ◌>>◌, ◌or◌, many, never, pure, symbol, word}
use Rattle.kern_parse.specs.inner.Found.{ReadsRule}
use Rattle.kern_parse.specs.inner.Leading.{Leads}
use Rattle.kern_parse.specs.inner.Reading.{Reading, next_kind}
use Rattle.kern_parse.specs.Required.{Part, Refuses}

-- what stands in a block, where so many more brackets may be opened
abbrev pub stmt_inside : ℕ → Rule Stmt
stmt_inside zero = never
stmt_inside (suc n) = stmt_within n

-- a statement was read, and others may follow
pub record ReadsStmt (old : Reading) (stmt : Stmt) (new : Reading) : Type 0 where
  pub spelled : stmt_within (MOST_OPEN - old.depth) old.rest stmt new.rest
  pub leads : Leads (Part.Stmts ∷ []) old (Part.Stmts ∷ []) new
  pub depth : new.depth ≡ old.depth
  pub shorter : length new.rest < length old.rest

-- no token begins a statement, and nothing was read
pub record NoStmt (old new : Reading) : Type 0 where
  pub refused : Refuses Part.Stmts (next_kind old)
  pub same : new ≡ old

-- a statement was read where the next token begins one
abbrev pub FindsStmt : Reading → Option Stmt → Reading → Type 0
FindsStmt old (Some stmt) new = ReadsStmt old stmt new
FindsStmt old None new = NoStmt old new

-- statements were read, and others may follow
pub record Lists (old : Reading) (stmts : List Stmt) (now : Reading) : Type 0 where
  pub spelled : many (stmt_within (MOST_OPEN - old.depth)) old.rest stmts now.rest
  pub leads : Leads (Part.Stmts ∷ []) old (Part.Stmts ∷ []) now
  pub depth : now.depth ≡ old.depth
  pub shorter : length now.rest ≤ length old.rest

-- all statements here were read
pub record ReadsStmts (old : Reading) (stmts : List Stmt) (new : Reading) : Type 0 where
  pub reads : ReadsRule (many (stmt_within (MOST_OPEN - old.depth))) (Part.Stmts ∷ []) old stmts new

pub record ReadsBlock (old : Reading) (stmts : List Stmt) (new : Reading) : Type 0 where
  pub reads : ReadsRule (block (stmt_inside (MOST_OPEN - old.depth))) (Part.Block ∷ []) old stmts new

-- the block of `else`, or none
abbrev pub else_rule : Rule Stmt → Rule (List Stmt)
else_rule within = (word words.Else >> block within) or pure []

pub record ReadsElse (old : Reading) (stmts : List Stmt) (new : Reading) : Type 0 where
  pub reads : ReadsRule (else_rule (stmt_inside (MOST_OPEN - old.depth))) (Part.ElseBlock ∷ []) old stmts new

abbrev pub assign_rule : Bool → Rule ℕ
assign_rule true = symbol symbols.Add
assign_rule false = symbol symbols.Assign

-- whether `+=` or `=` was read
pub record ReadsAssign (old : Reading) (contributes : Bool) (new : Reading) : Type 0 where
  pub place : ℕ
  pub reads : ReadsRule (assign_rule contributes) (Part.Assign ∷ []) old place new
