-- What is written for statements, in the lanes of a mask.
use Rattle.std.specs.Prelude.{ℕ, List, [], ◌∷◌, ◌++◌, map, Option, Some, None}
use Rattle.kern_tree.specs.declared.expr.Expr.{Expr}
use Rattle.kern_tree.specs.declared.kernel.Decl.{Decl}
use Rattle.kern_tree.specs.declared.kernel.Kernel.{Kernel}
use Rattle.kern_tree.specs.declared.kernel.Kind.{Kind}
use Rattle.kern_tree.specs.declared.stmt.Act.{Act}
use Rattle.kern_tree.specs.declared.stmt.Act.TheFolds.{fold-Act}
use Rattle.kern_tree.specs.declared.stmt.Act.TheOpen.{Act-F, Stmt-F}
use Rattle.kern_tree.specs.declared.stmt.Act.TheOpen as acts
use Rattle.kern_tree.specs.declared.stmt.Stmt.{Stmt}
use Rattle.lane_code.specs.declared.code.RawCode.{RawCode}
use Rattle.lane_code.specs.declared.instruction.Lane.TheVariants as lanes
use Rattle.lane_codegen.specs.declared.place.Place.{Place}
use Rattle.lane_codegen.specs.declared.place.Place.TheVariants.{Scaled, Condition}
use Rattle.lane_codegen.specs.declared.place.Registers.{Registers}
use Rattle.lane_codegen.specs.declared.variable.Assigned.{Assigned}
use Rattle.lane_codegen.specs.Acts.{copies}
use Rattle.lane_codegen.specs.Expressions.{code_of}
use Rattle.lane_codegen.specs.Names.{entry}
use Rattle.lane_codegen.specs.Writing.{nothing_written, with_numbers, with_copies, with_gift, with_mask, new_registers}

-- the names that are assigned so far in the text, and the code
pub record Written : Type 0 where
  pub table : List Assigned
  pub code : RawCode

abbrev pub StmtMaker : Type 0
StmtMaker = ℕ → Written → Written

abbrev pub assigned_as : List ℕ → Kind → ℕ → Registers → Assigned
assigned_as name kind scale at = record { name = name; kind = kind; scale = scale; at = at }

-- a name that wasn't assigned before takes these registers; that of an earlier one are written again
abbrev pub held_at : List ℕ → Kind → ℕ → Registers → ℕ → Option Assigned → Written → Written
held_at name kind scale at under None w = record { table = w.table ++ assigned_as name kind scale at ∷ []; code = w.code }
held_at name kind scale at under (Some old) w =
    record { table = w.table; code = with_copies kind old.at at under w.code }

-- A value is held in registers of its own. It may stand in those of other names, or of this one.
abbrev pub held : List ℕ → ℕ → List Assigned → Place → RawCode → Written
held name under table (Condition mask) w = record { table = table; code = w }
held name under table (Scaled kind scale at) w =
    held_at name kind scale (new_registers kind w.numbers) under (entry table name)
    (record { table = table; code = with_numbers kind (copies at) under w })

-- the blocks of an `if`: the first in the lanes of the condition, the second in those that aren't in it
abbrev pub branches : ℕ → StmtMaker → StmtMaker → List Assigned → Place → RawCode → Written
branches under body others table (Condition mask) w =
    others w.masks (body mask (record { table = table; code = with_mask under (lanes.AndNot under mask) w }))
branches under body others table (Scaled kind scale at) w = record { table = table; code = w }

abbrev pub block_of : List StmtMaker → StmtMaker
block_of [] under w = w
block_of (stmt ∷ stmts) under w = block_of stmts under (stmt under w)

abbrev pub stmt_maker : Stmt-F StmtMaker StmtMaker → StmtMaker
stmt_maker stmt = stmt.act

module _ (decls : List Decl) where
  -- name = value;
  abbrev pub set_written : List ℕ → Expr → StmtMaker
  set_written name value under w =
      let made = code_of decls w.table value under w.code in held name under w.table made.0 made.1

  -- name += value;
  abbrev pub gift_written : Expr → ℕ → List Assigned → RawCode → RawCode
  gift_written value under table w = let made = code_of decls table value under w in with_gift made.0 under made.1

  abbrev pub if_written : Expr → StmtMaker → StmtMaker → StmtMaker
  if_written condition body others under w =
      let made = code_of decls w.table condition under w.code in branches under body others w.table made.0 made.1

  abbrev pub act_maker : Act-F StmtMaker StmtMaker → StmtMaker
  act_maker (acts.Set name value) = set_written name value
  act_maker (acts.Give name value) = λ under w. record { table = w.table; code = gift_written value under w.table w.code }
  act_maker (acts.If condition body others) = if_written condition (block_of body) (block_of others)

  abbrev pub act_code : Act → StmtMaker
  act_code = fold-Act StmtMaker StmtMaker act_maker stmt_maker

  abbrev pub block_code : List Stmt → StmtMaker
  block_code stmts = block_of (map (λ stmt. act_code stmt.act) stmts)

-- the code of a kernel
abbrev pub kernel_code : Kernel → RawCode
kernel_code kernel = (block_code kernel.decls kernel.body 0 (record { table = []; code = nothing_written })).code
