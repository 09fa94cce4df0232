-- What the grammar reads of statements and declarations is held.
use Rattle.std.proofs.Common.{◌≡◌, ℕ, zero, suc, ◌+◌, ◌-◌, ◌<◌, ◌≤◌, ◌^◌, pos, inl, inr, sym, ap, ◌∙◌, subst, List, [], ◌∷◌, arith}
use Rattle.std.specs.Prelude.{neg_ℤ}
use Rattle.kern_token.specs.declared.token.Symbol.TheVariants as symbols
use Rattle.kern_token.specs.declared.token.Token.{Token}
use Rattle.kern_token.specs.declared.token.TokenKind.TheVariants as kinds
use Rattle.kern_token.specs.declared.token.Word.{Word}
use Rattle.kern_token.specs.declared.token.Word.TheVariants as words
use Rattle.kern_token.specs.Pieces.{IsName}
use Rattle.kern_tree.specs.declared.expr.Expr.{Expr}
use Rattle.kern_tree.specs.declared.kernel.Combine.{Combine}
use Rattle.kern_tree.specs.declared.kernel.Decl.{Decl}
use Rattle.kern_tree.specs.declared.kernel.Kernel.{Kernel}
use Rattle.kern_tree.specs.declared.kernel.Kind.{Kind}
use Rattle.kern_tree.specs.declared.kernel.DeclKind.{DeclKind}
use Rattle.kern_tree.specs.declared.kernel.DeclKind.TheVariants as declared_as
use Rattle.kern_tree.specs.declared.stmt.Act.{Act}
use Rattle.kern_tree.specs.declared.stmt.Stmt.{Stmt}
use Rattle.kern_tree.specs.Grammar.{stmt_node, kind, combine, field_of, force, signed, param, decl, decl_node, assignment, block, conditional, stmt_over, stmt_within, stmt, kernel}
use Rattle.kern_tree.specs.Rules.{Rule, many, never}
use Rattle.kern_print.proofs.HeldStmts as held
use Rattle.kern_print.proofs.HeldStmts.{HeldStmt, HeldBlock, HeldDecl, HeldDecls, Small}
use Rattle.kern_print.proofs.Walk.{Fit, Keeps, after_token, ended, name_whole, scale_whole, number_whole, expr_keeps}

after_curly : {place end : ℕ} {tokens rest : List Token} (depth : ℕ) → tokens ≡ record { kind = kinds.Symbol symbols.OpenCurly; place = place; end = end } ∷ rest → Fit depth tokens
    → (depth < 32) × Fit (depth + 1) rest
after_curly depth e fit = let h = after_token depth e fit in let small : depth + 1 ≤ 32 = h.1 in (omega arith, h.2)

after_close_curly : {place end : ℕ} {tokens rest : List Token} (depth : ℕ) → tokens ≡ record { kind = kinds.Symbol symbols.CloseCurly; place = place; end = end } ∷ rest → Fit (depth + 1) tokens → Fit depth rest
after_close_curly {rest = rest} depth e fit =
    let same : depth + 1 - 1 ≡ depth = omega arith in
    subst (λ (d : ℕ). Fit d rest) same (after_token (depth + 1) e fit).2

assignment_keeps : Keeps HeldStmt assignment
assignment_keeps tokens value rest depth (target, t1, (end1, e1), (act, t2, inl (p, t3, (end3, e3), (is_act, stop3)), (e, t4, (n, read), (semi, t5, (end5, e5), (same, stop))))) fit =
    let first = after_token depth e1 fit in
    let second = subst (λ (ts : List Token). Fit depth ts) stop3 (after_token depth e3 first.2).2 in
    let third = expr_keeps t2 e t4 depth (n, read) second in
    ended (HeldStmt depth) depth (same ∙ ap (λ (f : List ℕ → Expr → Act). stmt_node target.place (f target.held e)) is_act) stop (held.set (name_whole first.0) third.0) (after_token depth e5 third.1).2
assignment_keeps tokens value rest depth (target, t1, (end1, e1), (act, t2, inr (p, t3, (end3, e3), (is_act, stop3)), (e, t4, (n, read), (semi, t5, (end5, e5), (same, stop))))) fit =
    let first = after_token depth e1 fit in
    let second = subst (λ (ts : List Token). Fit depth ts) stop3 (after_token depth e3 first.2).2 in
    let third = expr_keeps t2 e t4 depth (n, read) second in
    ended (HeldStmt depth) depth (same ∙ ap (λ (f : List ℕ → Expr → Act). stmt_node target.place (f target.held e)) is_act) stop (held.give (name_whole first.0) third.0) (after_token depth e5 third.1).2

module _ (inside : Rule Stmt) (keeps : Keeps HeldStmt inside) where
  many_keeps : (ss : List Stmt) (tokens rest : List Token) (depth : ℕ) → many inside tokens ss rest → Fit depth tokens → HeldBlock depth ss × Fit depth rest
  many_keeps [] tokens rest depth stop fit = (held.done, subst (λ (ts : List Token). Fit depth ts) stop fit)
  many_keeps (s ∷ ss) tokens rest depth (between, read, others) fit =
      let first = keeps tokens s between depth read fit in
      let second = many_keeps ss between rest depth others first.1 in
      (held.more first.0 second.0, second.1)

  block_keeps : (tokens : List Token) (ss : List Stmt) (rest : List Token) (depth : ℕ) → block inside tokens ss rest → Fit depth tokens
      → (depth < 32) × HeldBlock (depth + 1) ss × Fit depth rest
  block_keeps tokens ss rest depth (p, t1, (end1, e1), (body, t2, read, (q, t3, (end3, e3), (same, stop)))) fit =
      let first = after_curly depth e1 fit in
      let second = many_keeps body t1 t2 (depth + 1) read first.1 in
      let third = ended (HeldBlock (depth + 1)) depth same stop second.0 (after_close_curly depth e3 second.1) in
      (first.0, third.0, third.1)

  conditional_keeps : Keeps HeldStmt (conditional inside)
  conditional_keeps tokens value rest depth (place, t1, (end1, e1), (c, t2, (n, read), (body, t3, read_body, (others, t4, inl (p, t5, (end5, e5), read_others), (same, stop))))) fit =
      let first = expr_keeps t1 c t2 depth (n, read) (after_token depth e1 fit).2 in
      let second = block_keeps t2 body t3 depth read_body first.1 in
      let third = block_keeps t5 others t4 depth read_others (after_token depth e5 second.2).2 in
      ended (HeldStmt depth) depth same stop (held.conditional first.0 second.0 second.1 third.1) third.2
  conditional_keeps tokens value rest depth (place, t1, (end1, e1), (c, t2, (n, read), (body, t3, read_body, (others, t4, inr (none, stop'), (same, stop))))) fit =
      let first = expr_keeps t1 c t2 depth (n, read) (after_token depth e1 fit).2 in
      let second = block_keeps t2 body t3 depth read_body first.1 in
      ended (HeldStmt depth) depth same (stop' ∙ stop) (held.conditional first.0 second.0 second.1 (subst (HeldBlock (depth + 1)) (sym none) held.done)) second.2

  over_keeps : Keeps HeldStmt (stmt_over inside)
  over_keeps tokens value rest depth (inl h) fit = assignment_keeps tokens value rest depth h fit
  over_keeps tokens value rest depth (inr h) fit = conditional_keeps tokens value rest depth h fit

within_keeps : (n : ℕ) → Keeps HeldStmt (stmt_within n)
within_keeps zero = over_keeps never (λ tokens value rest depth h fit. absurd h)
within_keeps (suc n) = over_keeps (stmt_within n) (within_keeps n)

stmt_keeps : Keeps HeldStmt stmt
stmt_keeps tokens value rest depth (n, h) fit = within_keeps n tokens value rest depth h fit

-- ---- declarations

kind_keeps : (tokens : List Token) (k : Kind) (rest : List Token) (depth : ℕ) → kind tokens k rest → Fit depth tokens → Fit depth rest
kind_keeps tokens k rest depth (inl (p, t1, (end1, e1), (same, stop))) fit = subst (λ (ts : List Token). Fit depth ts) stop (after_token depth e1 fit).2
kind_keeps tokens k rest depth (inr (p, t1, (end1, e1), (same, stop))) fit = subst (λ (ts : List Token). Fit depth ts) stop (after_token depth e1 fit).2

combine_keeps : (tokens : List Token) (k : Combine) (rest : List Token) (depth : ℕ) → combine tokens k rest → Fit depth tokens → Fit depth rest
combine_keeps tokens k rest depth (inl (inl (p, t1, (end1, e1), (same, stop)))) fit = subst (λ (ts : List Token). Fit depth ts) stop (after_token depth e1 fit).2
combine_keeps tokens k rest depth (inl (inr (p, t1, (end1, e1), (same, stop)))) fit = subst (λ (ts : List Token). Fit depth ts) stop (after_token depth e1 fit).2
combine_keeps tokens k rest depth (inr (p, t1, (end1, e1), (same, stop))) fit = subst (λ (ts : List Token). Fit depth ts) stop (after_token depth e1 fit).2

field_keeps : (w : Word) (what : Kind → ℕ → List ℕ → DeclKind) → ((place bits : ℕ) (called field : List ℕ) (k : Kind) → bits ≤ 62 → IsName called → IsName field → HeldDecl (decl_node place called (what k bits field)))
    → Keeps (λ depth. HeldDecl) (field_of w what)
field_keeps w what make tokens value rest depth (place, t1, (end1, e1), (k, t2, read_kind, (bits, t3, (end3, e3), (called, t4, (end4, e4), (colon, t5, (end5, e5), (field, t6, (end6, e6), (semi, t7, (end7, e7), (same, stop)))))))) fit =
    let first = kind_keeps t1 k t2 depth read_kind (after_token depth e1 fit).2 in
    let second = after_token depth e3 first in
    let third = after_token depth e4 second.2 in
    let fourth = after_token depth e6 (after_token depth e5 third.2).2 in
    ended HeldDecl depth same stop (make place bits.held called.held field.held k (scale_whole second.0) (name_whole third.0) (name_whole fourth.0)) (after_token depth e7 fourth.2).2

force_keeps : Keeps (λ depth. HeldDecl) force
force_keeps tokens value rest depth (place, t1, (end1, e1), (k, t2, read_kind, (bits, t3, (end3, e3), (called, t4, (end4, e4), (combined, t5, read_combine, (semi, t7, (end7, e7), (same, stop))))))) fit =
    let first = kind_keeps t1 k t2 depth read_kind (after_token depth e1 fit).2 in
    let second = after_token depth e3 first in
    let third = after_token depth e4 second.2 in
    let fourth = combine_keeps t4 combined t5 depth read_combine third.2 in
    ended HeldDecl depth same stop (held.force (scale_whole second.0) (name_whole third.0)) (after_token depth e7 fourth).2

negative_small : (n : ℕ) → n < 2 ^ 63 → Small (neg_ℤ (pos n))
negative_small zero small = held.plain small
negative_small (suc n) small = held.negative small

signed_keeps : Keeps (λ depth. Small) signed
signed_keeps tokens value rest depth (inl (digits, t1, (end1, e1), (same, stop))) fit =
    let first = after_token depth e1 fit in
    ended Small depth same stop (held.plain (number_whole first.0)) first.2
signed_keeps tokens value rest depth (inr (p, t1, (end1, e1), (digits, t2, (end2, e2), (same, stop)))) fit =
    let first = after_token depth e2 (after_token depth e1 fit).2 in
    ended Small depth same stop (negative_small digits.held (number_whole first.0)) first.2

param_keeps : Keeps (λ depth. HeldDecl) param
param_keeps tokens value rest depth (place, t1, (end1, e1), (bits, t3, (end3, e3), (called, t4, (end4, e4), (sign, t5, (end5, e5), (v, t6, read, (semi, t7, (end7, e7), (same, stop))))))) fit =
    let second = after_token depth e3 (after_token depth e1 fit).2 in
    let third = after_token depth e4 second.2 in
    let fourth = signed_keeps t5 v t6 depth read (after_token depth e5 third.2).2 in
    ended HeldDecl depth same stop (held.param (scale_whole second.0) (name_whole third.0) fourth.0) (after_token depth e7 fourth.1).2

decl_keeps : Keeps (λ depth. HeldDecl) decl
decl_keeps tokens value rest depth (inl (inl (inl h))) fit = field_keeps words.Epi declared_as.Epi (λ place bits called field k b n f. held.epi b n f) tokens value rest depth h fit
decl_keeps tokens value rest depth (inl (inl (inr h))) fit = field_keeps words.Epj declared_as.Epj (λ place bits called field k b n f. held.epj b n f) tokens value rest depth h fit
decl_keeps tokens value rest depth (inl (inr h)) fit = force_keeps tokens value rest depth h fit
decl_keeps tokens value rest depth (inr h) fit = param_keeps tokens value rest depth h fit

decls_keep : (ds : List Decl) (tokens rest : List Token) (depth : ℕ) → many decl tokens ds rest → Fit depth tokens → HeldDecls ds × Fit depth rest
decls_keep [] tokens rest depth stop fit = (held.done_decls, subst (λ (ts : List Token). Fit depth ts) stop fit)
decls_keep (d ∷ ds) tokens rest depth (between, read, others) fit =
    let first = decl_keeps tokens d between depth read fit in
    let second = decls_keep ds between rest depth others first.1 in
    (held.more_decls first.0 second.0, second.1)

-- a kernel that is read is held
pub kernel_held : (tokens : List Token) (k : Kernel) → kernel tokens k [] → Fit 0 tokens → HeldDecls k.decls × HeldBlock 0 k.body
kernel_held tokens k (ds, t1, read, (ss, t2, read', (same, stop))) fit =
    let first = decls_keep ds tokens t1 0 read fit in
    let second = many_keeps stmt stmt_keeps ss t1 t2 0 read' first.1 in
    (subst HeldDecls (sym (ap (λ (x : Kernel). x.decls) same)) first.0, subst (HeldBlock 0) (sym (ap (λ (x : Kernel). x.body) same)) second.0)
