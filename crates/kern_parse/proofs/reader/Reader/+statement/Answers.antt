use Rattle.std.proofs.Common.{◌≡◌, Some, inr, rules}
use Rattle.std.proofs.lemmas.Result.{err_from_is_err_and, MatchResult-weaker}
use Rattle.kern_token.specs.declared.token.Symbol.TheVariants as symbols
use Rattle.kern_token.specs.declared.token.TokenKind.TheVariants as kinds
use Rattle.kern_token.specs.declared.token.Word.TheVariants as words
use Rattle.kern_parse.specs.declared.operators.Level.TheVariants as levels
use Rattle.kern_parse.specs.inner.Reading.{next_kind}
use Rattle.kern_parse.specs.Required.{Part}
use Rattle.kern_parse.proofs.Following.{leads_then, leads_first, fault_first, fault_then}
use Rattle.kern_parse.proofs.Statements.{if_leads, if_full, conditional_read, block_expands, block_read, else_none, else_leads, else_read, stmt_none, lists_none, lists_more, lists_all}
use Rattle.kern_parse.proofs.reader.Reader.+statement.Goals as goal

pub conditional-returns-in_err-place : goal.conditional-returns-in_err-place
conditional-returns-in_err-place t c =
    let fault = err_from_is_err_and c.from_residual.result c.from_residual.ensures.1 in
    rw (fault.1, fault.2) (inr (if_full c.args.self.now _ c.requires c.in_err-place.ensures.err))

pub conditional-returns-in_err-condition : goal.conditional-returns-in_err-condition
conditional-returns-in_err-condition t c =
    let fault = err_from_is_err_and c.from_residual-in_err-condition.result c.from_residual-in_err-condition.ensures.1 in
    rw (fault.1, fault.2) (fault_then (if_leads c.args.self.now _ _ c.requires c.in_ok-place.ensures.ok) (fault_first (Part.Chain levels.Or) _ c.in_err-condition.ensures))

pub conditional-returns-in_err-body : goal.conditional-returns-in_err-body
conditional-returns-in_err-body t c =
    let fault = err_from_is_err_and c.from_residual-in_err-body.result c.from_residual-in_err-body.ensures.1 in
    rw (fault.1, fault.2) (fault_then (leads_then (if_leads c.args.self.now _ _ c.requires c.in_ok-place.ensures.ok) (leads_first (Part.Chain levels.Or) _ c.in_ok-condition.ensures.reads.leads)) (fault_first Part.Block _ c.in_err-body.ensures))

pub conditional-returns-in_err-others : goal.conditional-returns-in_err-others
conditional-returns-in_err-others t c =
    let fault = err_from_is_err_and c.from_residual-in_err-others.result c.from_residual-in_err-others.ensures.1 in
    rw (fault.1, fault.2) (fault_then (leads_then (leads_then (if_leads c.args.self.now _ _ c.requires c.in_ok-place.ensures.ok) (leads_first (Part.Chain levels.Or) _ c.in_ok-condition.ensures.reads.leads)) (leads_first Part.Block _ c.in_ok-body.ensures.reads.leads)) (fault_first Part.ElseBlock _ c.in_err-others.ensures))

pub conditional-returns : goal.conditional-returns
conditional-returns t c = conditional_read _ _ _ _ c.args.self.now _ _ _ _ c.requires c.in_ok-place.ensures.ok c.in_ok-condition.ensures c.in_ok-body.ensures c.in_ok-others.ensures

pub block-returns-in_err-open_bracket : goal.block-returns-in_err-open_bracket
block-returns-in_err-open_bracket t c =
    let fault = err_from_is_err_and c.from_residual.result c.from_residual.ensures.1 in
    rw (fault.1, fault.2) (fault_then (block_expands c.args.self.now) (fault_first (Part.Exactly symbols.OpenCurly) _ (inr c.in_err-open_bracket.ensures.err)))

pub block-returns-in_err-stmts : goal.block-returns-in_err-stmts
block-returns-in_err-stmts t c =
    let fault = err_from_is_err_and c.from_residual-in_err-stmts.result c.from_residual-in_err-stmts.ensures.1 in
    rw (fault.1, fault.2) (fault_then (leads_then (block_expands c.args.self.now) (leads_first (Part.Exactly symbols.OpenCurly) _ c.in_ok-open_bracket.ensures.ok.leads)) (fault_first Part.Stmts _ c.in_err-stmts.ensures))

pub block-returns-in_err-close_bracket : goal.block-returns-in_err-close_bracket
block-returns-in_err-close_bracket t c =
    let fault = err_from_is_err_and c.from_residual-in_err-close_bracket.result c.from_residual-in_err-close_bracket.ensures.1 in
    rw (fault.1, fault.2) (fault_then (leads_then (leads_then (block_expands c.args.self.now) (leads_first (Part.Exactly symbols.OpenCurly) _ c.in_ok-open_bracket.ensures.ok.leads)) (leads_first Part.Stmts _ c.in_ok-stmts.ensures.reads.leads)) (fault_first (Part.Exactly symbols.CloseCurly) _ (inr c.in_err-close_bracket.ensures.err)))

pub block-returns : goal.block-returns
block-returns t c = block_read _ c.args.self.now _ _ _ c.in_ok-open_bracket.ensures.ok c.in_ok-stmts.ensures c.in_ok-close_bracket.ensures.ok

pub else_block-returns-then-not-sees_word : goal.else_block-returns-then-not-sees_word
else_block-returns-then-not-sees_word t c =
    let other : next_kind c.args.self.now ≡ Some (kinds.Word words.Else) → ⊥ = search rules in
    else_none _ c.args.self.now c.new.ensures other

pub else_block-returns : goal.else_block-returns
else_block-returns t c =
    let next : next_kind c.args.self.now ≡ Some (kinds.Word words.Else) = search rules in
    MatchResult-weaker c.block.result c.block.ensures (λ stmts read. else_read stmts c.args.self.now _ c.take.new.self _ next c.take.ensures read) (λ fault fails. fault_then (else_leads c.args.self.now _ _ next c.take.ensures) fails)

pub statements-loop-stmts-init : goal.statements-loop-stmts-init
statements-loop-stmts-init t c = lists_none _ c.args.self.now c.new-stmts.ensures

pub statements-loop-stmts-preserved : goal.statements-loop-stmts-preserved
statements-loop-stmts-preserved t c =
    let one = rw c.in-Some.is at c.in_ok-stmt.ensures in
    rw c.in_ok-push.ensures.ok (lists_more _ c.loop-stmts.self _ _ _ c.loop-stmts.invariant one)

pub statements-loop-stmts-smaller : goal.statements-loop-stmts-smaller
statements-loop-stmts-smaller t c =
    let one = rw c.in-Some.is at c.in_ok-stmt.ensures in
    one.shorter

pub statements-returns : goal.statements-returns
statements-returns t c =
    let none = rw c.in_default.is at c.in_ok-stmt.ensures in
    lists_all _ c.loop-stmts.self _ _ c.loop-stmts.invariant none

pub statement-returns : goal.statement-returns
statement-returns t c =
    let other : next_kind c.args.self.now ≡ Some (kinds.Word words.If) → ⊥ = search rules in
    stmt_none c.args.self.now (rw (← c.next.ensures) c.in_default.ensures) other
