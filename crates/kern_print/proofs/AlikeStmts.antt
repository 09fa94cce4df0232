-- Statements that differ in places alone.
use Rattle.std.proofs.Common.{◌≡◌, ℕ, suc, ◌+◌, refl, sym, ap, ◌∙◌, List, [], ◌∷◌, ◌++◌, length, map, length-append, arith}
use Rattle.std.specs.List.{flat_map}
use Rattle.kern_tree.specs.declared.expr.Expr.{Expr}
use Rattle.kern_tree.specs.declared.stmt.Act.{Act, fold-Act, fold-roll-Act}
use Rattle.kern_tree.specs.declared.stmt.Act.TheOpen as layers
use Rattle.kern_tree.specs.declared.stmt.Act.TheVariants as acts
use Rattle.kern_tree.specs.declared.stmt.Stmt.{Stmt, fold-roll-Stmt}
use Rattle.kern_tree.specs.Grammar.{stmt_node}
use Rattle.kern_tree.specs.Nodes.{stmt_nodes, expr_nodes}
use Rattle.kern_tree.specs.Unrolled.{TreesByForm}
use Rattle.kern_print.specs.Places.{expr_without_places, act_without_places, stmt_at_zero, stmt_without_places}
use Rattle.kern_print.proofs.Alike.{Alike}

abbrev bare_act : Act → Act
bare_act = fold-Act Act Stmt act_without_places stmt_at_zero

at_zero : (place : ℕ) (act : Act) → stmt_without_places (stmt_node place act) ≡ stmt_node 0 (bare_act act)
at_zero place act = fold-roll-Stmt Act Stmt act_without_places stmt_at_zero (record { place = place; act = act })

without_set : (place : ℕ) (n : List ℕ) (e : Expr) → stmt_without_places (stmt_node place (acts.Set n e)) ≡ stmt_node 0 (acts.Set n (expr_without_places e))
without_set place n e = at_zero place (acts.Set n e) ∙ ap (λ a. stmt_node 0 (bare_act a)) (sym (acts.rolls-Set n e)) ∙ ap (stmt_node 0) (fold-roll-Act Act Stmt act_without_places stmt_at_zero (layers.Set n e))

without_give : (place : ℕ) (n : List ℕ) (e : Expr) → stmt_without_places (stmt_node place (acts.Give n e)) ≡ stmt_node 0 (acts.Give n (expr_without_places e))
without_give place n e = at_zero place (acts.Give n e) ∙ ap (λ a. stmt_node 0 (bare_act a)) (sym (acts.rolls-Give n e)) ∙ ap (stmt_node 0) (fold-roll-Act Act Stmt act_without_places stmt_at_zero (layers.Give n e))

without_if : (place : ℕ) (c : Expr) (ss others : List Stmt) → stmt_without_places (stmt_node place (acts.If c ss others)) ≡ stmt_node 0 (acts.If (expr_without_places c) (map stmt_without_places ss) (map stmt_without_places others))
without_if place c ss others = at_zero place (acts.If c ss others) ∙ ap (λ a. stmt_node 0 (bare_act a)) (sym (acts.rolls-If c ss others)) ∙ ap (stmt_node 0) (fold-roll-Act Act Stmt act_without_places stmt_at_zero (layers.If c ss others))

count_set : TreesByForm → (place : ℕ) (n : List ℕ) (e : Expr) → length (stmt_nodes (stmt_node place (acts.Set n e))) ≡ suc (length (expr_nodes e))
count_set tree place n e = ap (λ x. length x) (tree.nodes.set place n e)

count_give : TreesByForm → (place : ℕ) (n : List ℕ) (e : Expr) → length (stmt_nodes (stmt_node place (acts.Give n e))) ≡ suc (length (expr_nodes e))
count_give tree place n e = ap (λ x. length x) (tree.nodes.give place n e)

count_if : TreesByForm → (place : ℕ) (c : Expr) (ss others : List Stmt) → length (stmt_nodes (stmt_node place (acts.If c ss others))) ≡ suc (length (expr_nodes c) + length (flat_map stmt_nodes ss) + length (flat_map stmt_nodes others))
count_if tree place c ss others =
    ap (λ x. length x) (tree.nodes.conditional place c ss others)
    ∙ ap suc (length-append (expr_nodes c ++ flat_map stmt_nodes ss) (flat_map stmt_nodes others) ∙ ap (λ n. n + length (flat_map stmt_nodes others)) (length-append (expr_nodes c) (flat_map stmt_nodes ss)))

-- the same but for places, with as many nodes
pub record AlikeStmt (a b : Stmt) : Type 0 where
  pub same : stmt_without_places a ≡ stmt_without_places b
  pub nodes : length (stmt_nodes a) ≡ length (stmt_nodes b)

pub record AlikeBlock (a b : List Stmt) : Type 0 where
  pub same : map stmt_without_places a ≡ map stmt_without_places b
  pub nodes : length (flat_map stmt_nodes a) ≡ length (flat_map stmt_nodes b)

pub alike_set : TreesByForm → (place place' : ℕ) (n : List ℕ) {e e' : Expr} → Alike e e' → AlikeStmt (stmt_node place (acts.Set n e)) (stmt_node place' (acts.Set n e'))
alike_set tree place place' n {e = e} {e' = e'} h = record {
  same = without_set place n e ∙ ap (λ x. stmt_node 0 (acts.Set n x)) h.same ∙ sym (without_set place' n e');
  nodes = count_set tree place n e ∙ ap suc h.nodes ∙ sym (count_set tree place' n e');
}

pub alike_give : TreesByForm → (place place' : ℕ) (n : List ℕ) {e e' : Expr} → Alike e e' → AlikeStmt (stmt_node place (acts.Give n e)) (stmt_node place' (acts.Give n e'))
alike_give tree place place' n {e = e} {e' = e'} h = record {
  same = without_give place n e ∙ ap (λ x. stmt_node 0 (acts.Give n x)) h.same ∙ sym (without_give place' n e');
  nodes = count_give tree place n e ∙ ap suc h.nodes ∙ sym (count_give tree place' n e');
}

pub alike_if : TreesByForm → (place place' : ℕ) {c c' : Expr} {ss ss' others others' : List Stmt} → Alike c c' → AlikeBlock ss ss' → AlikeBlock others others'
    → AlikeStmt (stmt_node place (acts.If c ss others)) (stmt_node place' (acts.If c' ss' others'))
alike_if tree place place' {c = c} {c' = c'} {ss = ss} {ss' = ss'} {others = others} {others' = others'} h g f = record {
  same = without_if place c ss others ∙ ap (λ x. stmt_node 0 (acts.If x (map stmt_without_places ss) (map stmt_without_places others))) h.same
      ∙ ap (λ x. stmt_node 0 (acts.If (expr_without_places c') x (map stmt_without_places others))) g.same
      ∙ ap (λ x. stmt_node 0 (acts.If (expr_without_places c') (map stmt_without_places ss') x)) f.same ∙ sym (without_if place' c' ss' others');
  nodes = omega (arith, count_if tree place c ss others, count_if tree place' c' ss' others', h.nodes, g.nodes, f.nodes);
}

pub alike_none : AlikeBlock [] []
alike_none = record { same = refl; nodes = refl }

pub alike_more : {s s' : Stmt} {ss ss' : List Stmt} → AlikeStmt s s' → AlikeBlock ss ss' → AlikeBlock (s ∷ ss) (s' ∷ ss')
alike_more {s = s} {s' = s'} {ss = ss} {ss' = ss'} h g = record {
  same = ap (λ x. x ∷ map stmt_without_places ss) h.same ∙ ap (λ x. stmt_without_places s' ∷ x) g.same;
  nodes = omega (arith, length-append (stmt_nodes s) (flat_map stmt_nodes ss), length-append (stmt_nodes s') (flat_map stmt_nodes ss'), h.nodes, g.nodes);
}
