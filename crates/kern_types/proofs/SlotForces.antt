-- The FORCE variables of slots.
use Rattle.std.proofs.Common.{◌≡◌, ℕ, List, [], ◌∷◌, ◌++◌, Some, Ok, length, map, refl, sym, ap, ◌∙◌, subst, arith, length-append}
use Rattle.std.specs.List.{AllByRecursion}
use Rattle.kern_tree.specs.declared.kernel.Decl.{Decl}
use Rattle.kern_tree.specs.declared.stmt.Stmt.{Stmt}
use Rattle.kern_tree.specs.Limits as limits
use Rattle.kern_tree.specs.Limits.{IsLimitedStmt, IsLimitedBlock, ParsedKernelsKeepLimits}
use Rattle.kern_types.specs.declared.expr_type.ExprType.{ExprType}
use Rattle.kern_types.specs.declared.expr_type.ExprType.TheVariants.{Scaled}
use Rattle.kern_types.specs.Declarations.{force_type}
use Rattle.kern_types.specs.Names.{declaration}
use Rattle.kern_types.specs.Scopes.{Scope}
use Rattle.kern_types.specs.Statements.{act_after, at_stmt_place, stmt_after, stmts_after, contribution_check, if_check, act_slots, stmt_slots, slots_in, slots_in_act, act_targets, stmt_targets, targets_in, targets_in_act}
use Rattle.kern_types.specs.Steps.{◌>>=◌}
use Rattle.kern_types.specs.TypingLaws.{SlotsHaveForces}
use Rattle.kern_types.specs.WellTyped.{at_start}
use Rattle.kern_types.proofs.Acts.{before_other, joined}
use Rattle.kern_types.proofs.Checks.{passed_first, passed_then, reached}
use Rattle.kern_tree.proofs.Layers.{set_layer, give_layer, if_layer}
use Rattle.kern_types.proofs.LawsOfStatements.{after_decls, all_contributions_fit}
use Rattle.kern_types.proofs.Nodes.{slots_of_all, sum_more}
use Rattle.kern_types.proofs.SlotTargets.{if_targets}

-- ---- so many

mutual
  stmt_counted : {s : Stmt} → IsLimitedStmt s → length (targets_in_act s.act) ≡ slots_in_act s.act
  stmt_counted (limits.set {place = p} {name = n} {value = v} h) = ap length (set_layer act_targets stmt_targets n v) ∙ sym (set_layer act_slots stmt_slots n v)
  stmt_counted (limits.give {place = p} {name = n} {value = v} h) = ap length (give_layer act_targets stmt_targets n v) ∙ sym (give_layer act_slots stmt_slots n v)
  stmt_counted (limits.conditional {place = p} {condition = c} {body = body} {others = others} h one two) =
      omega (
        arith,
        ap length (if_targets c body others),
        length-append (targets_in body) (targets_in others),
        if_layer act_slots stmt_slots c body others,
        slots_of_all body,
        slots_of_all others,
        block_counted one,
        block_counted two,
      )

  block_counted : {ss : List Stmt} → IsLimitedBlock ss → length (targets_in ss) ≡ slots_in ss
  block_counted limits.none = refl
  block_counted (limits.more {stmt = s} {stmts = ss} one others) =
      omega (arith, length-append (targets_in_act s.act) (targets_in ss), sum_more (slots_in_act s.act) (map (λ (x : Stmt). slots_in_act x.act) ss), stmt_counted one, block_counted others)

-- ---- each is one

both : {X : Type 0} (P : X → Type 0) (xs ys : List X) → AllByRecursion P xs → AllByRecursion P ys → AllByRecursion P (xs ++ ys)
both P [] ys h k = k
both P (x ∷ xs) ys h k = (h.0, both P xs ys h.1 k)

module _ (decls : List Decl) where
  abbrev IsForce : List ℕ → Type 0
  IsForce name = (type : ExprType) × (force_type (declaration decls name) ≡ Some type)

  mutual
    stmt_gives : {s : Stmt} → IsLimitedStmt s → (scope after : Scope) → stmt_after decls s scope ≡ Ok after → AllByRecursion IsForce (targets_in_act s.act)
    stmt_gives (limits.set {place = p} {name = n} {value = v} small) scope after e = subst (AllByRecursion IsForce) (sym (set_layer act_targets stmt_targets n v)) tt
    stmt_gives (limits.give {place = p} {name = n} {value = v} small) scope after e =
        let e1 = sym (ap (λ f. f p scope) (give_layer (act_after decls) at_stmt_place n v)) ∙ e in
        let given = all_contributions_fit decls p n v scope (passed_first (contribution_check decls p n v scope) (Ok scope) after e1) in
        subst (AllByRecursion IsForce) (sym (give_layer act_targets stmt_targets n v)) ((Scaled given.0 given.1, given.3), tt)
    stmt_gives (limits.conditional {place = p} {condition = c} {body = body} {others = others} small one two) scope after e =
        let e1 = sym (ap (λ f. f p scope) (if_layer (act_after decls) at_stmt_place c body others)) ∙ e in
        let e2 = passed_then (if_check decls p c scope) (stmts_after decls body scope >>= (λ first. stmts_after decls others (before_other scope first) >>= (λ second. Ok (joined first second)))) after e1 in
        let f = reached (stmts_after decls body scope) _ after e2 in
        let g = reached (stmts_after decls others (before_other scope f.value)) _ after f.then_is in
        subst (AllByRecursion IsForce) (sym (if_targets c body others))
        (both IsForce (targets_in body) (targets_in others) (block_gives one scope f.value f.is) (block_gives two (before_other scope f.value) g.value g.is))

    block_gives : {ss : List Stmt} → IsLimitedBlock ss → (scope after : Scope) → stmts_after decls ss scope ≡ Ok after → AllByRecursion IsForce (targets_in ss)
    block_gives limits.none scope after e = tt
    block_gives (limits.more {stmt = s} {stmts = ss} one others) scope after e =
        let r = reached (stmt_after decls s scope) (stmts_after decls ss) after e in
        both IsForce (targets_in_act s.act) (targets_in ss) (stmt_gives one scope r.value r.is) (block_gives others r.value after r.then_is)

pub have_forces : ParsedKernelsKeepLimits → SlotsHaveForces
have_forces keep kernel parsed (end, e) = record {
  each = block_counted (keep kernel parsed).body;
  forces = block_gives kernel.decls (keep kernel parsed).body at_start end (after_decls kernel end e);
}
