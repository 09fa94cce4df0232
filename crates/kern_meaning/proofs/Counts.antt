-- How many statements there are, and how many of them are `+=`.
use Rattle.std.proofs.Common.{◌≡◌, Bool, ◌+◌, ◌≤◌, List, ◌++◌, length, map, flat_map, refl, sym, ap, ◌∙◌, arith, length-append}
use Rattle.kern_tree.specs.declared.kernel.Decl.{Decl}
use Rattle.kern_tree.specs.declared.stmt.Stmt.{Stmt}
use Rattle.kern_tree.specs.Limits as limits
use Rattle.kern_tree.specs.Limits.{IsLimitedStmt, IsLimitedBlock}
use Rattle.kern_tree.specs.Nodes.{expr_nodes, stmt_nodes}
use Rattle.kern_types.specs.Statements.{act_slots, stmt_slots, slots_in, slots_in_act}
use Rattle.kern_meaning.specs.Pair.{Statements, act_statements, at_stmt, act_meaning, block_meaning}
use Rattle.kern_tree.proofs.Layers.{set_layer, give_layer, if_layer}
use Rattle.kern_tree.proofs.NodeEquations.{nodes-set, nodes-give, nodes-if}
use Rattle.kern_types.proofs.Nodes.{sum_more}

module _ (decls : List Decl) (coincident : Bool) where
  mutual
    -- each is a node
    stmt_counted : {s : Stmt} → IsLimitedStmt s → (act_meaning decls coincident s.act).count ≤ length (stmt_nodes s)
    stmt_counted (limits.set {place = p} {name = n} {value = v} h) =
        omega (arith, ap (λ (m : Statements). m.count) (set_layer (act_statements decls coincident) at_stmt n v), ap length (nodes-set p n v))
    stmt_counted (limits.give {place = p} {name = n} {value = v} h) =
        omega (arith, ap (λ (m : Statements). m.count) (give_layer (act_statements decls coincident) at_stmt n v), ap length (nodes-give p n v))
    stmt_counted (limits.conditional {place = p} {condition = c} {body = body} {others = others} h one two) =
        omega (
          arith,
          ap (λ (m : Statements). m.count) (if_layer (act_statements decls coincident) at_stmt c body others),
          ap length (nodes-if p c body others),
          length-append (expr_nodes c ++ flat_map stmt_nodes body) (flat_map stmt_nodes others),
          length-append (expr_nodes c) (flat_map stmt_nodes body),
          block_counted one,
          block_counted two,
        )

    pub block_counted : {ss : List Stmt} → IsLimitedBlock ss → (block_meaning decls coincident ss).count ≤ length (flat_map stmt_nodes ss)
    block_counted limits.none = omega arith
    block_counted (limits.more {stmt = s} {stmts = ss} one others) = omega (arith, length-append (stmt_nodes s) (flat_map stmt_nodes ss), stmt_counted one, block_counted others)

  -- the slots of a block are its contributions
  mutual
    stmt_slots_are : {s : Stmt} → IsLimitedStmt s → (act_meaning decls coincident s.act).slots ≡ slots_in_act s.act
    stmt_slots_are (limits.set {place = p} {name = n} {value = v} h) =
        ap (λ (m : Statements). m.slots) (set_layer (act_statements decls coincident) at_stmt n v) ∙ sym (set_layer act_slots stmt_slots n v)
    stmt_slots_are (limits.give {place = p} {name = n} {value = v} h) =
        ap (λ (m : Statements). m.slots) (give_layer (act_statements decls coincident) at_stmt n v) ∙ sym (give_layer act_slots stmt_slots n v)
    stmt_slots_are (limits.conditional {place = p} {condition = c} {body = body} {others = others} h one two) =
        ap (λ (m : Statements). m.slots) (if_layer (act_statements decls coincident) at_stmt c body others)
        ∙ ap (λ n. n + (block_meaning decls coincident others).slots) (block_slots_are one) ∙ ap (λ n. slots_in body + n) (block_slots_are two)
        ∙ sym (if_layer act_slots stmt_slots c body others)

    pub block_slots_are : {ss : List Stmt} → IsLimitedBlock ss → (block_meaning decls coincident ss).slots ≡ slots_in ss
    block_slots_are limits.none = refl
    block_slots_are (limits.more {stmt = s} {stmts = ss} one others) =
        ap (λ n. n + (block_meaning decls coincident ss).slots) (stmt_slots_are one) ∙ ap (λ n. slots_in_act s.act + n) (block_slots_are others)
        ∙ sym (sum_more (slots_in_act s.act) (map (λ (s : Stmt). slots_in_act s.act) ss))

  -- contributions are statements
  mutual
    stmt_fewer : {s : Stmt} → IsLimitedStmt s → (act_meaning decls coincident s.act).slots ≤ (act_meaning decls coincident s.act).count
    stmt_fewer (limits.set {place = p} {name = n} {value = v} h) =
        let is = set_layer (act_statements decls coincident) at_stmt n v in
        omega (arith, ap (λ (m : Statements). m.slots) is, ap (λ (m : Statements). m.count) is)
    stmt_fewer (limits.give {place = p} {name = n} {value = v} h) =
        let is = give_layer (act_statements decls coincident) at_stmt n v in
        omega (arith, ap (λ (m : Statements). m.slots) is, ap (λ (m : Statements). m.count) is)
    stmt_fewer (limits.conditional {place = p} {condition = c} {body = body} {others = others} h one two) =
        let is = if_layer (act_statements decls coincident) at_stmt c body others in
        omega (arith, ap (λ (m : Statements). m.slots) is, ap (λ (m : Statements). m.count) is, block_fewer one, block_fewer two)

    pub block_fewer : {ss : List Stmt} → IsLimitedBlock ss → (block_meaning decls coincident ss).slots ≤ (block_meaning decls coincident ss).count
    block_fewer limits.none = omega arith
    block_fewer (limits.more {stmt = s} {stmts = ss} one others) = omega (arith, stmt_fewer one, block_fewer others)
