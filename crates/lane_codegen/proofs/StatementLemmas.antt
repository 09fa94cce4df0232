-- What is written for statements, by their forms.
use Rattle.std.proofs.Common.{◌≡◌, ℕ, ◌+◌, ◌<◌, List, ◌∷◌, drop, length, get_or, Result, Ok, Err, OnOk, sym, ap, ◌∙◌}
use Rattle.std.proofs.lemmas.List.{drop_more}
use Rattle.kern_tree.proofs.Layers.{give_layer, if_layer}
use Rattle.kern_tree.specs.declared.expr.Expr.{Expr}
use Rattle.kern_tree.specs.declared.kernel.Decl.{Decl}
use Rattle.kern_tree.specs.declared.kernel.Kind.{Kind}
use Rattle.kern_tree.specs.declared.stmt.Act.{Act}
use Rattle.kern_tree.specs.declared.stmt.Act.TheVariants as acts
use Rattle.kern_tree.specs.declared.stmt.Stmt.{Stmt}
use Rattle.lane_code.specs.declared.code.RawCode.{RawCode}
use Rattle.lane_code.specs.declared.instruction.Lane.TheVariants as lanes
use Rattle.lane_codegen.specs.declared.place.Place.{Place}
use Rattle.lane_codegen.specs.declared.place.Place.TheVariants.{Scaled, Condition}
use Rattle.lane_codegen.specs.declared.place.Registers.{Registers}
use Rattle.lane_codegen.specs.declared.variable.Assigned.{Assigned}
use Rattle.lane_codegen.specs.Expressions.{code_of}
use Rattle.lane_codegen.specs.Statements.{Written, act_maker, stmt_maker, act_code, block_code, branches, gift_written, if_written}
use Rattle.lane_codegen.specs.Writing.{with_mask}

module _ (decls : List Decl) (act : Act) (condition : Expr) (body others read read_other : List Stmt) (is : act ≡ acts.If condition body others) (same : read ≡ body) (same_other : read_other ≡ others) (under : ℕ) (table : List Assigned) (before : RawCode)
    (read_table : List Assigned) (same_table : read_table ≡ table) (place : Place) (w : RawCode) (place_is : place ≡ (code_of decls read_table condition under before).0) (w_is : w ≡ (code_of decls read_table condition under before).1) where
  if_is : act_code decls act under (record { table = table; code = before }) ≡ branches under (block_code decls read) (block_code decls read_other) table place w
  if_is =
      ap (λ a. act_code decls a under (record { table = table; code = before })) is
      ∙ ap (λ f. f under (record { table = table; code = before })) (if_layer (act_maker decls) stmt_maker condition body others)
      ∙ ap (λ b. if_written decls condition (block_code decls b) (block_code decls others) under (record { table = table; code = before })) (sym same)
      ∙ ap (λ b. if_written decls condition (block_code decls read) (block_code decls b) under (record { table = table; code = before })) (sym same_other)
      ∙ ap (λ ts. branches under (block_code decls read) (block_code decls read_other) table (code_of decls ts condition under before).0 (code_of decls ts condition under before).1) (sym same_table)
      ∙ ap (λ p. branches under (block_code decls read) (block_code decls read_other) table p (code_of decls read_table condition under before).1) (sym place_is)
      ∙ ap (λ c. branches under (block_code decls read) (block_code decls read_other) table place c) (sym w_is)

  pub none_written : (kind : Kind) (scale : ℕ) (at : Registers) → place ≡ Scaled kind scale at → act_code decls act under (record { table = table; code = before }) ≡ record { table = table; code = w }
  none_written kind scale at on = if_is ∙ ap (λ p. branches under (block_code decls read) (block_code decls read_other) table p w) on

  pub both_written : (mask rest : ℕ) (next : RawCode) (middle end : Written) → place ≡ Condition mask → rest ≡ w.masks → next ≡ with_mask under (lanes.AndNot under mask) w
      → block_code decls read mask (record { table = table; code = next }) ≡ middle → block_code decls read_other rest middle ≡ end → act_code decls act under (record { table = table; code = before }) ≡ end
  both_written mask rest next middle end on rest_is next_is first second =
      if_is
      ∙ ap (λ p. branches under (block_code decls read) (block_code decls read_other) table p w) on
      ∙ ap (λ c. block_code decls read_other w.masks (block_code decls read mask (record { table = table; code = c }))) (sym next_is)
      ∙ ap (block_code decls read_other w.masks) first
      ∙ ap (λ r. block_code decls read_other r middle) (sym rest_is)
      ∙ second

pub gift_is : (decls : List Decl) (act : Act) (name : List ℕ) (value : Expr) (under : ℕ) (table read_table : List Assigned) (before after : RawCode) → act ≡ acts.Give name value → read_table ≡ table → after ≡ gift_written decls value under read_table before
    → act_code decls act under (record { table = table; code = before }) ≡ record { table = table; code = after }
gift_is decls act name value under table read_table before after is same e =
    ap (λ a. act_code decls a under (record { table = table; code = before })) is
    ∙ ap (λ f. f under (record { table = table; code = before })) (give_layer (act_maker decls) stmt_maker name value)
    ∙ ap (λ ts. record { table = table; code = gift_written decls value under ts before }) (sym same)
    ∙ ap (λ c. record { table = table; code = c }) (sym e)

pub on_ok : {A E P Q : Type 0} (r : Result A E) → (P → Q) → OnOk r P → OnOk r Q
on_ok (Ok a) f h = f h
on_ok (Err e) f h = tt

-- one statement of a block after another
module _ (decls : List Decl) (block : List Stmt) (k : ℕ) (stmt : Stmt) (under : ℕ) (within : k < length block) (is : stmt ≡ get_or block k stmt) where
  pub next_written : (before after : Written) → act_code decls stmt.act under before ≡ after → block_code decls (drop k block) under before ≡ block_code decls (drop (k + 1) block) under after
  next_written before after e =
      ap (λ b. block_code decls b under before) (drop_more block k stmt within ∙ ap (λ s. s ∷ drop (k + 1) block) (sym is))
      ∙ ap (block_code decls (drop (k + 1) block) under) e
