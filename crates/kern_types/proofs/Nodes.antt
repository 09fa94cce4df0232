-- Contributions are nodes.
use Rattle.std.proofs.Common.{◌≡◌, ℕ, ◌+◌, ◌-◌, ◌^◌, ◌≤◌, List, [], ◌∷◌, ◌++◌, length, map, flat_map, min, refl, ap, arith, length-append, fold, sum}
use Rattle.kern_tree.specs.declared.expr.Expr.{Expr}
use Rattle.kern_tree.specs.declared.kernel.Decl.{Decl}
use Rattle.kern_tree.specs.declared.kernel.Kernel.{Kernel}
use Rattle.kern_tree.specs.declared.stmt.Act.{Act}
use Rattle.kern_tree.specs.declared.stmt.Act.TheVariants as acts
use Rattle.kern_tree.specs.declared.stmt.Stmt.{Stmt}
use Rattle.kern_tree.specs.Nodes.{expr_nodes, kernel_nodes, stmt_nodes}
use Rattle.kern_tree.specs.Limits as limits
use Rattle.kern_tree.specs.Limits.{IsLimitedStmt, IsLimitedBlock}
use Rattle.kern_types.specs.Statements.{act_slots, stmt_slots, nodes_in_act, slots_in, slots_in_act}
use Rattle.kern_tree.proofs.Layers.{of_stmt, set_layer, give_layer, if_layer}
use Rattle.kern_tree.proofs.NodeEquations.{act_nodes-if, nodes-give, nodes-if}

pub if_within : (condition : Expr) (block other read read_other : List Stmt) (act : Act) → act ≡ acts.If condition block other → slots_in_act act ≡ slots_in block + slots_in other → read ≡ block → read_other ≡ other
    → slots_in read ≤ length (flat_map stmt_nodes read) → slots_in read_other ≤ length (flat_map stmt_nodes read_other) → slots_in_act act ≤ length (nodes_in_act act) + 1
if_within condition block other read read_other act is slots same same_other first second =
    omega (
      arith,
      slots,
      ap slots_in same,
      ap slots_in same_other,
      ap (λ ss. length (flat_map stmt_nodes ss)) same,
      ap (λ ss. length (flat_map stmt_nodes ss)) same_other,
      ap (λ a. length (nodes_in_act a)) is,
      ap length (act_nodes-if condition block other),
      length-append (expr_nodes condition ++ flat_map stmt_nodes block) (flat_map stmt_nodes other),
      length-append (expr_nodes condition) (flat_map stmt_nodes block),
    )

-- a kernel with at most 512 nodes has so few contributions that their count is exact
pub few_slots : (kernel : Kernel) (body : List Stmt) (count : ℕ) → body ≡ kernel.body → length (kernel_nodes kernel) ≤ 512 → count ≡ min (slots_in body) (2 ^ 32 - 1)
    → slots_in body ≤ length (flat_map stmt_nodes body) → count ≡ slots_in kernel.body
few_slots kernel body count same few counted within =
    omega (arith, length-append (flat_map (λ (d : Decl). d.place ∷ []) kernel.decls) (flat_map stmt_nodes kernel.body), ap slots_in same, ap (λ ss. length (flat_map stmt_nodes ss)) same)

-- ---- by the statements themselves

sum_from : (a : ℕ) (ns : List ℕ) → fold (λ x y. x + y) a ns ≡ a + fold (λ x y. x + y) 0 ns
sum_from a [] = omega arith
sum_from a (n ∷ ns) = omega (arith, sum_from (a + n) ns, sum_from (0 + n) ns)

pub sum_more : (n : ℕ) (ns : List ℕ) → sum (n ∷ ns) ≡ n + sum ns
sum_more n ns = let from = sum_from (0 + n) ns in omega (arith, from)

pub slots_of_all : (block : List Stmt) → sum (map (of_stmt act_slots stmt_slots) block) ≡ slots_in block
slots_of_all block = ap sum (each block) where
  each : (block : List Stmt) → map (of_stmt act_slots stmt_slots) block ≡ map (λ (s : Stmt). slots_in_act s.act) block
  each [] = refl
  each (s ∷ block) = ap (λ ns. slots_in_act s.act ∷ ns) (each block)

mutual
  stmt_within : {s : Stmt} → IsLimitedStmt s → slots_in_act s.act ≤ length (stmt_nodes s)
  stmt_within (limits.set {place = p} {name = n} {value = v} h) = omega (arith, set_layer act_slots stmt_slots n v)
  stmt_within (limits.give {place = p} {name = n} {value = v} h) = omega (arith, give_layer act_slots stmt_slots n v, ap length (nodes-give p n v))
  stmt_within (limits.conditional {place = p} {condition = c} {body = body} {others = others} h one two) =
      omega (
        arith,
        if_layer act_slots stmt_slots c body others,
        slots_of_all body,
        slots_of_all others,
        ap length (nodes-if p c body others),
        length-append (expr_nodes c ++ flat_map stmt_nodes body) (flat_map stmt_nodes others),
        length-append (expr_nodes c) (flat_map stmt_nodes body),
        block_slots one,
        block_slots two,
      )

  pub block_slots : {ss : List Stmt} → IsLimitedBlock ss → slots_in ss ≤ length (flat_map stmt_nodes ss)
  block_slots limits.none = omega arith
  block_slots (limits.more {stmt = s} {stmts = ss} one others) =
      omega (arith, length-append (stmt_nodes s) (flat_map stmt_nodes ss), sum_more (slots_in_act s.act) (map (λ (x : Stmt). slots_in_act x.act) ss), stmt_within one, block_slots others)
