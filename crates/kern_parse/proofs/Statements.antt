-- Statements made of what was read.
use Rattle.std.proofs.Common.{◌≡◌, ℕ, zero, suc, ◌-◌, List, [], ◌∷◌, ◌++◌, Bool, true, false, Option, Some, None, refl, ap, ◌∙◌, subst, inl, inr, arith}
use Rattle.kern_token.specs.declared.fault.KernFault.{KernFault}
use Rattle.kern_token.specs.declared.fault.KernFault.TheVariants as faults
use Rattle.kern_token.specs.declared.token.Symbol.TheVariants as symbols
use Rattle.kern_token.specs.declared.token.Token.{Token}
use Rattle.kern_token.specs.declared.token.TokenKind.{TokenKind}
use Rattle.kern_token.specs.declared.token.TokenKind.TheVariants as kinds
use Rattle.kern_token.specs.declared.token.Word.TheVariants as words
use Rattle.kern_tree.specs.declared.expr.Expr.{Expr}
use Rattle.kern_tree.specs.declared.stmt.Act.{Act}
use Rattle.kern_tree.specs.declared.stmt.Act.TheVariants as acts
use Rattle.kern_tree.specs.declared.stmt.Stmt.{Stmt}
use Rattle.kern_tree.specs.FirstFault.{brackets_after}
use Rattle.kern_tree.specs.Grammar.{expr, assignment, block, conditional, stmt_within, stmt_node}
use Rattle.kern_tree.specs.Rules.{many, token}
use Rattle.kern_parse.specs.declared.operators.Level.TheVariants as levels
use Rattle.kern_parse.specs.inner.Found.{ReadsToken, ReadsExpr}
use Rattle.kern_parse.specs.inner.Leading.{Leads, Halts}
use Rattle.kern_parse.specs.inner.Reading.{Reading, next_kind, next_place, Takes, TakesNode, IsFull}
use Rattle.kern_parse.specs.Required.{Part, Refuses, move, and_then}
use Rattle.kern_parse.specs.inner.Stmts.{stmt_inside, ReadsStmt, NoStmt, Lists, ReadsStmts, ReadsBlock, ReadsElse, ReadsAssign, assign_rule, else_rule}
use Rattle.kern_parse.proofs.Expanding.{stands_for}
use Rattle.kern_parse.proofs.Expressions.{within_more, less_by_one, many_snoc}
use Rattle.kern_parse.proofs.Following.{leads_then, leads_first, shorter_by_token, strictly_shorter, node_token}
use Rattle.kern_parse.proofs.Steps.{passes, refuses}
use Rattle.kern_parse.proofs.Taking.{reads_token, takes_plain, takes_node, full_halts, kind_is}

-- ---- the expression of a statement

pub some_expr : (a b : Reading) (e : Expr) → ReadsExpr (Part.Chain levels.Or) a e b → expr a.rest e b.rest
some_expr a b e read = (32 - a.depth, within_more (32 - a.depth) a.rest e b.rest read.reads.spelled)

-- ---- assignments

pub assign_read : (contributes : Bool) (kind : TokenKind) (old : Reading) (place : ℕ) (new : Reading) → next_kind old ≡ Some kind → Takes old place new → move Part.Assign kind ≡ Some (record { then = []; is_node = false })
    → ((depth : ℕ) → brackets_after depth kind ≡ depth) → ((tokens : List Token) (at : ℕ) (rest : List Token) → token kind tokens at rest → assign_rule contributes tokens at rest) → ReadsAssign old contributes new
assign_read contributes kind old place new next t is same spelled =
    let found = reads_token Part.Assign kind old place new t next is same in
    record {
      place = found.place;
      reads = record {
        spelled = spelled old.rest found.place new.rest found.spelled;
        leads = found.leads;
        depth = t.depth;
        shorter = shorter_by_token _ old.rest found.place new.rest found.spelled;
      };
    }

no_assign : (next : Option TokenKind) → (next ≡ Some (kinds.Symbol symbols.Add) → ⊥) → (next ≡ Some (kinds.Symbol symbols.Assign) → ⊥) → Refuses Part.Assign next
no_assign None a b = tt
no_assign (Some (kinds.Symbol symbols.Add)) a b = absurd (a refl)
no_assign (Some (kinds.Symbol symbols.Assign)) a b = absurd (b refl)
no_assign (Some _) a b = refl

pub assign_refused : (old : Reading) → (next_kind old ≡ Some (kinds.Symbol symbols.Add) → ⊥) → (next_kind old ≡ Some (kinds.Symbol symbols.Assign) → ⊥)
    → Halts (Part.Assign ∷ []) old (faults.Unexpected (next_place old))
assign_refused old a b = refuses Part.Assign old refl (no_assign (next_kind old) a b)

abbrev pub assigned : List Part
assigned = Part.Assign ∷ Part.Chain levels.Or ∷ Part.Exactly symbols.Semicolon ∷ Part.Stmts ∷ []

pub name_leads : (called : List ℕ) (old : Reading) (place : ℕ) (mid : Reading) → next_kind old ≡ Some (kinds.Name called) → TakesNode old place mid → Leads (Part.Stmts ∷ []) old assigned mid
name_leads called old place mid next t = takes_node Part.Stmts assigned (kinds.Name called) old place mid t next refl refl

pub name_full : (called : List ℕ) (old : Reading) (fault : KernFault) → next_kind old ≡ Some (kinds.Name called) → IsFull old fault → Halts (Part.Stmts ∷ []) old fault
name_full called old fault next full = full_halts Part.Stmts assigned (kinds.Name called) old fault full next refl refl

abbrev pub act_of : Bool → List ℕ → Expr → Act
act_of true called value = acts.Give called value
act_of false called value = acts.Set called value

assignment_spelled : (contributes : Bool) (called : List ℕ) (place at ends : ℕ) (value : Expr) (t0 t1 t2 t3 t4 : List Token) → token (kinds.Name called) t0 place t1 → assign_rule contributes t1 at t2 → expr t2 value t3
    → token (kinds.Symbol symbols.Semicolon) t3 ends t4 → assignment t0 (stmt_node place (act_of contributes called value)) t4
assignment_spelled true called place at ends value t0 t1 t2 t3 t4 named sign valued ended =
    (record { place = place; held = called }, t1, named, (acts.Give, t2, inr (at, t2, sign, (refl, refl)), (value, t3, valued, (ends, t4, ended, (refl, refl)))))
assignment_spelled false called place at ends value t0 t1 t2 t3 t4 named sign valued ended =
    (record { place = place; held = called }, t1, named, (acts.Set, t2, inl (at, t2, sign, (refl, refl)), (value, t3, valued, (ends, t4, ended, (refl, refl)))))

stmt_of_assignment : (n : ℕ) (tokens : List Token) (stmt : Stmt) (rest : List Token) → assignment tokens stmt rest → stmt_within n tokens stmt rest
stmt_of_assignment zero tokens stmt rest h = inl h
stmt_of_assignment (suc n) tokens stmt rest h = inl h

pub assignment_read : (contributes : Bool) (called : List ℕ) (value : Expr) (place : ℕ) (old r0 r1 r2 new : Reading) (stmt : Stmt) → next_kind old ≡ Some (kinds.Name called) → TakesNode old place r0
    → ReadsAssign r0 contributes r1 → ReadsExpr (Part.Chain levels.Or) r1 value r2 → ReadsToken (Part.Exactly symbols.Semicolon) (kinds.Symbol symbols.Semicolon) r2 new
    → stmt ≡ stmt_node place (act_of contributes called value) → ReadsStmt old stmt new
assignment_read contributes called value place old r0 r1 r2 new stmt next t sign valued ended is =
    let first = node_token (kinds.Name called) old place r0 t next in
    let made = assignment_spelled contributes called place sign.place ended.place value old.rest r0.rest r1.rest r2.rest new.rest first sign.reads.spelled (some_expr r1 r2 value valued) ended.spelled in
    record {
      spelled = rw is (stmt_of_assignment (32 - old.depth) old.rest _ new.rest made);
      leads = leads_then (name_leads called old place r0 next t) (leads_then (leads_first _ _ sign.reads.leads) (leads_then (leads_first _ _ valued.reads.leads) (leads_first _ _ ended.leads)));
      depth = ended.depth ∙ valued.reads.depth ∙ sign.reads.depth ∙ t.depth;
      shorter = strictly_shorter old.rest t.token r0.rest new.rest t.rest (omega (arith, sign.reads.shorter, valued.reads.shorter, shorter_by_token _ r2.rest ended.place new.rest ended.spelled));
    }

-- ---- blocks

block_move : (kind : TokenKind) → move Part.Block kind ≡ and_then (move (Part.Exactly symbols.OpenCurly) kind) (Part.Stmts ∷ Part.Exactly symbols.CloseCurly ∷ [])
block_move (kinds.Symbol symbols.OpenCurly) = refl
block_move (kinds.Symbol _) = refl
block_move _ = refl

pub block_expands : (old : Reading) → Leads (Part.Block ∷ []) old (Part.Exactly symbols.OpenCurly ∷ Part.Stmts ∷ Part.Exactly symbols.CloseCurly ∷ []) old
block_expands old = stands_for Part.Block (Part.Exactly symbols.OpenCurly) (Part.Stmts ∷ Part.Exactly symbols.CloseCurly ∷ []) old refl refl (λ kind next. block_move kind)

pub block_read : (stmts : List Stmt) (old a b new : Reading) → ReadsToken (Part.Exactly symbols.OpenCurly) (kinds.Symbol symbols.OpenCurly) old a → ReadsStmts a stmts b
    → ReadsToken (Part.Exactly symbols.CloseCurly) (kinds.Symbol symbols.CloseCurly) b new → ReadsBlock old stmts new
block_read stmts old a b new opened read closed =
    let W : ℕ → Type 0 = λ n. many (stmt_inside n) a.rest stmts b.rest in
    let within : W (32 - old.depth) = subst W (less_by_one old.depth a.depth opened.depth opened.shallow) read.reads.spelled in
    record {
      reads = record {
        spelled = (opened.place, a.rest, opened.spelled, (stmts, b.rest, within, (closed.place, new.rest, closed.spelled, (refl, refl))));
        leads = leads_then (block_expands old) (leads_then (leads_first _ _ opened.leads) (leads_then (leads_first _ _ read.reads.leads) closed.leads));
        depth = omega (arith, opened.depth, read.reads.depth, closed.depth);
        shorter = omega (arith, read.reads.shorter, shorter_by_token _ old.rest opened.place a.rest opened.spelled, shorter_by_token _ b.rest closed.place new.rest closed.spelled);
      };
    }

no_else : (next : Option TokenKind) → (next ≡ Some (kinds.Word words.Else) → ⊥) → Refuses Part.ElseBlock next
no_else None other = tt
no_else (Some (kinds.Word words.Else)) other = absurd (other refl)
no_else (Some _) other = refl

pub else_none : (stmts : List Stmt) (old : Reading) → stmts ≡ [] → (next_kind old ≡ Some (kinds.Word words.Else) → ⊥) → ReadsElse old stmts old
else_none stmts old is other = record {
  reads = record {
    spelled = inr (is, refl);
    leads = passes Part.ElseBlock old refl (no_else (next_kind old) other);
    depth = refl;
    shorter = omega arith;
  };
}

pub else_leads : (old : Reading) (place : ℕ) (mid : Reading) → next_kind old ≡ Some (kinds.Word words.Else) → Takes old place mid → Leads (Part.ElseBlock ∷ []) old (Part.Block ∷ []) mid
else_leads old place mid next t = takes_plain Part.ElseBlock (Part.Block ∷ []) (kinds.Word words.Else) old place mid t next refl refl

pub else_read : (stmts : List Stmt) (old : Reading) (place : ℕ) (mid new : Reading) → next_kind old ≡ Some (kinds.Word words.Else) → Takes old place mid → ReadsBlock mid stmts new → ReadsElse old stmts new
else_read stmts old place mid new next t read =
    let first = kind_is old.rest mid.rest t.token (kinds.Word words.Else) t.rest next in
    let W : ℕ → Type 0 = λ d. block (stmt_inside (32 - d)) mid.rest stmts new.rest in
    record {
      reads = record {
        spelled = inl (t.token.place, mid.rest, (t.token.end, t.rest ∙ ap (λ k. record { kind = k; place = t.token.place; end = t.token.end } ∷ mid.rest) first), subst W t.depth read.reads.spelled);
        leads = leads_then (else_leads old place mid next t) read.reads.leads;
        depth = read.reads.depth ∙ t.depth;
        shorter = omega (arith, strictly_shorter old.rest t.token mid.rest new.rest t.rest read.reads.shorter);
      };
    }

-- ---- conditionals

abbrev pub conditions : List Part
conditions = Part.Chain levels.Or ∷ Part.Block ∷ Part.ElseBlock ∷ Part.Stmts ∷ []

pub if_leads : (old : Reading) (place : ℕ) (mid : Reading) → next_kind old ≡ Some (kinds.Word words.If) → TakesNode old place mid → Leads (Part.Stmts ∷ []) old conditions mid
if_leads old place mid next t = takes_node Part.Stmts conditions (kinds.Word words.If) old place mid t next refl refl

pub if_full : (old : Reading) (fault : KernFault) → next_kind old ≡ Some (kinds.Word words.If) → IsFull old fault → Halts (Part.Stmts ∷ []) old fault
if_full old fault next full = full_halts Part.Stmts conditions (kinds.Word words.If) old fault full next refl refl

stmt_of_conditional : (n : ℕ) (tokens : List Token) (stmt : Stmt) (rest : List Token) → conditional (stmt_inside n) tokens stmt rest → stmt_within n tokens stmt rest
stmt_of_conditional zero tokens stmt rest h = inr h
stmt_of_conditional (suc n) tokens stmt rest h = inr h

pub conditional_read : (condition : Expr) (body others : List Stmt) (place : ℕ) (old r0 r1 r2 new : Reading) → next_kind old ≡ Some (kinds.Word words.If) → TakesNode old place r0
    → ReadsExpr (Part.Chain levels.Or) r0 condition r1 → ReadsBlock r1 body r2 → ReadsElse r2 others new → ReadsStmt old (stmt_node place (acts.If condition body others)) new
conditional_read condition body others place old r0 r1 r2 new next t tested block_is else_is =
    let first = node_token (kinds.Word words.If) old place r0 t next in
    let level : r1.depth ≡ old.depth = tested.reads.depth ∙ t.depth in
    let V : ℕ → Type 0 = λ d. block (stmt_inside (32 - d)) r1.rest body r2.rest in
    let W : ℕ → Type 0 = λ d. else_rule (stmt_inside (32 - d)) r2.rest others new.rest in
    record {
      spelled = stmt_of_conditional (32 - old.depth) old.rest _ new.rest (
        place,
        r0.rest,
        first,
        (
          condition,
          r1.rest,
          some_expr r0 r1 condition tested,
          (
            body,
            r2.rest,
            subst V level block_is.reads.spelled,
            (others, new.rest, subst W (block_is.reads.depth ∙ level) else_is.reads.spelled, (refl, refl)),
          ),
        ),
      );
      leads = leads_then (if_leads old place r0 next t) (leads_then (leads_first _ _ tested.reads.leads) (leads_then (leads_first _ _ block_is.reads.leads) (leads_first _ _ else_is.reads.leads)));
      depth = else_is.reads.depth ∙ block_is.reads.depth ∙ level;
      shorter = strictly_shorter old.rest t.token r0.rest new.rest t.rest (omega (arith, tested.reads.shorter, block_is.reads.shorter, else_is.reads.shorter));
    }

-- ---- lists of statements

no_stmt : (next : Option TokenKind) → Refuses Part.Name next → (next ≡ Some (kinds.Word words.If) → ⊥) → Refuses Part.Stmts next
no_stmt None h other = tt
no_stmt (Some (kinds.Name called)) h other = cc
no_stmt (Some (kinds.Word words.If)) h other = absurd (other refl)
no_stmt (Some _) h other = refl

pub stmt_none : (old : Reading) → Refuses Part.Name (next_kind old) → (next_kind old ≡ Some (kinds.Word words.If) → ⊥) → NoStmt old old
stmt_none old h other = record { refused = no_stmt (next_kind old) h other; same = refl }

pub lists_none : (stmts : List Stmt) (old : Reading) → stmts ≡ [] → Lists old stmts old
lists_none stmts old is = rw is (record { spelled = refl; leads = record { goes = λ later. refl }; depth = refl; shorter = omega arith })

pub lists_more : (old now new : Reading) (stmts : List Stmt) (stmt : Stmt) → Lists old stmts now → ReadsStmt now stmt new → Lists old (stmts ++ stmt ∷ []) new
lists_more old now new stmts stmt found one =
    let W : ℕ → Type 0 = λ d. stmt_within (32 - d) now.rest stmt new.rest in
    record {
      spelled = many_snoc (stmt_within (32 - old.depth)) old.rest stmts now.rest stmt new.rest found.spelled (subst W found.depth one.spelled);
      leads = leads_then found.leads one.leads;
      depth = one.depth ∙ found.depth;
      shorter = omega (arith, found.shorter, one.shorter);
    }

pub lists_all : (old now new : Reading) (stmts : List Stmt) → Lists old stmts now → NoStmt now new → ReadsStmts old stmts new
lists_all old now new stmts found none = rw none.same (record {
  reads = record {
    spelled = found.spelled;
    leads = leads_then found.leads (passes Part.Stmts now refl none.refused);
    depth = found.depth;
    shorter = found.shorter;
  };
})
