use Rattle.std.proofs.Common.{◌≡◌, Some, refl, sym, ap, ◌∙◌, inl, inr, arith, rules}
use Rattle.std.specs.Option.{option_copied}
use Rattle.std.proofs.lemmas.Result.{err_from_is_err_and, MatchResult-weaker}
use Rattle.kern_token.specs.declared.token.Symbol.TheVariants as symbols
use Rattle.kern_token.specs.declared.token.TokenKind.TheVariants as kinds
use Rattle.kern_parse.specs.declared.operators.Level.TheVariants as levels
use Rattle.kern_parse.specs.inner.Operators.{binary_of, relation_of, prefix_of}
use Rattle.kern_parse.specs.inner.Reading.{next_kind}
use Rattle.kern_parse.specs.Required.{Part, operand}
use Rattle.kern_parse.proofs.Expanding.{chain_expands, rel_expands, post_expands}
use Rattle.kern_parse.proofs.Expressions.{made, bracketed_read, one_read, two_read, three_read, to_read, call_leads, call_read, call_done, call_full, bracket_done, no_call_refuses, binary_full, relation_full, prefix_full, component_full, joins_first, joins_leads, joins_more, joins_all, rel_leads, rel_leads_on, rel_alone, rel_both, stands_for_post, unary_plain, unary_leads, unary_prefixed, picks_first, picks_leads, picks_more, picks_all}
use Rattle.kern_parse.proofs.Following.{leads_then, leads_first, fault_first, fault_then, strictly_shorter}
use Rattle.kern_parse.proofs.Steps.{refuses}
use Rattle.kern_parse.proofs.reader.Reader.+expression.Goals as goal

pub bracketed-returns-in_err-open_bracket : goal.bracketed-returns-in_err-open_bracket
bracketed-returns-in_err-open_bracket t c =
    let fault = err_from_is_err_and c.from_residual.result c.from_residual.ensures.1 in
    rw (fault.1, fault.2) (fault_first (Part.Exactly symbols.OpenRound) _ (inr c.in_err-open_bracket.ensures.err))

pub bracketed-returns-in_err-inner : goal.bracketed-returns-in_err-inner
bracketed-returns-in_err-inner t c =
    let fault = err_from_is_err_and c.from_residual-in_err-inner.result c.from_residual-in_err-inner.ensures.1 in
    rw (fault.1, fault.2) (fault_then (leads_first (Part.Exactly symbols.OpenRound) _ c.in_ok-open_bracket.ensures.ok.leads) (fault_first (Part.Chain levels.Or) _ (c.in_err-inner.ensures)))

pub bracketed-returns-in_err-close_bracket : goal.bracketed-returns-in_err-close_bracket
bracketed-returns-in_err-close_bracket t c =
    let fault = err_from_is_err_and c.from_residual-in_err-close_bracket.result c.from_residual-in_err-close_bracket.ensures.1 in
    rw (fault.1, fault.2) (fault_then (leads_then (leads_first (Part.Exactly symbols.OpenRound) _ c.in_ok-open_bracket.ensures.ok.leads) (leads_first (Part.Chain levels.Or) _ c.in_ok-inner.ensures.reads.leads)) (fault_first (Part.Exactly symbols.CloseRound) _ (inr c.in_err-close_bracket.ensures.err)))

pub bracketed-returns : goal.bracketed-returns
bracketed-returns t c = bracketed_read _ _ _ _ _ c.in_ok-open_bracket.ensures.ok c.in_ok-inner.ensures c.in_ok-close_bracket.ensures.ok

pub call_of_two-returns-in_err-open_bracket : goal.call_of_two-returns-in_err-open_bracket
call_of_two-returns-in_err-open_bracket t c =
    let fault = err_from_is_err_and c.from_residual.result c.from_residual.ensures.1 in
    rw (fault.1, fault.2) (fault_first (Part.Exactly symbols.OpenRound) _ (inr c.in_err-open_bracket.ensures.err))

pub call_of_two-returns-in_err-a : goal.call_of_two-returns-in_err-a
call_of_two-returns-in_err-a t c =
    let fault = err_from_is_err_and c.from_residual-in_err-a.result c.from_residual-in_err-a.ensures.1 in
    rw (fault.1, fault.2) (fault_then (leads_first (Part.Exactly symbols.OpenRound) _ c.in_ok-open_bracket.ensures.ok.leads) (fault_first (Part.Chain levels.Or) _ (c.in_err-a.ensures)))

pub call_of_two-returns-in_err-symbol : goal.call_of_two-returns-in_err-symbol
call_of_two-returns-in_err-symbol t c =
    let fault = err_from_is_err_and c.from_residual-in_err-symbol.result c.from_residual-in_err-symbol.ensures.1 in
    rw (fault.1, fault.2) (fault_then (leads_then (leads_first (Part.Exactly symbols.OpenRound) _ c.in_ok-open_bracket.ensures.ok.leads) (leads_first (Part.Chain levels.Or) _ c.in_ok-a.ensures.reads.leads)) (fault_first (Part.Exactly symbols.Comma) _ (inr c.in_err-symbol.ensures.err)))

pub call_of_two-returns-in_err-b : goal.call_of_two-returns-in_err-b
call_of_two-returns-in_err-b t c =
    let fault = err_from_is_err_and c.from_residual-in_err-b.result c.from_residual-in_err-b.ensures.1 in
    rw (fault.1, fault.2) (fault_then (leads_then (leads_then (leads_first (Part.Exactly symbols.OpenRound) _ c.in_ok-open_bracket.ensures.ok.leads) (leads_first (Part.Chain levels.Or) _ c.in_ok-a.ensures.reads.leads)) (leads_first (Part.Exactly symbols.Comma) _ c.in_ok-symbol.ensures.ok.leads)) (fault_first (Part.Chain levels.Or) _ (c.in_err-b.ensures)))

pub call_of_two-returns-in_err-close_bracket : goal.call_of_two-returns-in_err-close_bracket
call_of_two-returns-in_err-close_bracket t c =
    let fault = err_from_is_err_and c.from_residual-in_err-close_bracket.result c.from_residual-in_err-close_bracket.ensures.1 in
    rw (fault.1, fault.2) (fault_then (leads_then (leads_then (leads_then (leads_first (Part.Exactly symbols.OpenRound) _ c.in_ok-open_bracket.ensures.ok.leads) (leads_first (Part.Chain levels.Or) _ c.in_ok-a.ensures.reads.leads)) (leads_first (Part.Exactly symbols.Comma) _ c.in_ok-symbol.ensures.ok.leads)) (leads_first (Part.Chain levels.Or) _ c.in_ok-b.ensures.reads.leads)) (fault_first (Part.Exactly symbols.CloseRound) _ (inr c.in_err-close_bracket.ensures.err)))

pub call_of_two-returns : goal.call_of_two-returns
call_of_two-returns t c = made _ _ c.two.result c.two.ensures (λ e is. rw is (two_read c.args.op c.args.place _ _ _ _ _ _ _ _ c.in_ok-open_bracket.ensures.ok c.in_ok-a.ensures c.in_ok-symbol.ensures.ok c.in_ok-b.ensures c.in_ok-close_bracket.ensures.ok))

pub call_of_three-returns-in_err-open_bracket : goal.call_of_three-returns-in_err-open_bracket
call_of_three-returns-in_err-open_bracket t c =
    let fault = err_from_is_err_and c.from_residual.result c.from_residual.ensures.1 in
    rw (fault.1, fault.2) (fault_first (Part.Exactly symbols.OpenRound) _ (inr c.in_err-open_bracket.ensures.err))

pub call_of_three-returns-in_err-a : goal.call_of_three-returns-in_err-a
call_of_three-returns-in_err-a t c =
    let fault = err_from_is_err_and c.from_residual-in_err-a.result c.from_residual-in_err-a.ensures.1 in
    rw (fault.1, fault.2) (fault_then (leads_first (Part.Exactly symbols.OpenRound) _ c.in_ok-open_bracket.ensures.ok.leads) (fault_first (Part.Chain levels.Or) _ (c.in_err-a.ensures)))

pub call_of_three-returns-in_err-symbol : goal.call_of_three-returns-in_err-symbol
call_of_three-returns-in_err-symbol t c =
    let fault = err_from_is_err_and c.from_residual-in_err-symbol.result c.from_residual-in_err-symbol.ensures.1 in
    rw (fault.1, fault.2) (fault_then (leads_then (leads_first (Part.Exactly symbols.OpenRound) _ c.in_ok-open_bracket.ensures.ok.leads) (leads_first (Part.Chain levels.Or) _ c.in_ok-a.ensures.reads.leads)) (fault_first (Part.Exactly symbols.Comma) _ (inr c.in_err-symbol.ensures.err)))

pub call_of_three-returns-in_err-b : goal.call_of_three-returns-in_err-b
call_of_three-returns-in_err-b t c =
    let fault = err_from_is_err_and c.from_residual-in_err-b.result c.from_residual-in_err-b.ensures.1 in
    rw (fault.1, fault.2) (fault_then (leads_then (leads_then (leads_first (Part.Exactly symbols.OpenRound) _ c.in_ok-open_bracket.ensures.ok.leads) (leads_first (Part.Chain levels.Or) _ c.in_ok-a.ensures.reads.leads)) (leads_first (Part.Exactly symbols.Comma) _ c.in_ok-symbol.ensures.ok.leads)) (fault_first (Part.Chain levels.Or) _ (c.in_err-b.ensures)))

pub call_of_three-returns-in_err-symbol-2 : goal.call_of_three-returns-in_err-symbol-2
call_of_three-returns-in_err-symbol-2 t c =
    let fault = err_from_is_err_and c.from_residual-in_err-symbol-2.result c.from_residual-in_err-symbol-2.ensures.1 in
    rw (fault.1, fault.2) (fault_then (leads_then (leads_then (leads_then (leads_first (Part.Exactly symbols.OpenRound) _ c.in_ok-open_bracket.ensures.ok.leads) (leads_first (Part.Chain levels.Or) _ c.in_ok-a.ensures.reads.leads)) (leads_first (Part.Exactly symbols.Comma) _ c.in_ok-symbol.ensures.ok.leads)) (leads_first (Part.Chain levels.Or) _ c.in_ok-b.ensures.reads.leads)) (fault_first (Part.Exactly symbols.Comma) _ (inr c.in_err-symbol-2.ensures.err)))

pub call_of_three-returns-in_err-c : goal.call_of_three-returns-in_err-c
call_of_three-returns-in_err-c t c =
    let fault = err_from_is_err_and c.from_residual-in_err-c.result c.from_residual-in_err-c.ensures.1 in
    rw (fault.1, fault.2) (fault_then (leads_then (leads_then (leads_then (leads_then (leads_first (Part.Exactly symbols.OpenRound) _ c.in_ok-open_bracket.ensures.ok.leads) (leads_first (Part.Chain levels.Or) _ c.in_ok-a.ensures.reads.leads)) (leads_first (Part.Exactly symbols.Comma) _ c.in_ok-symbol.ensures.ok.leads)) (leads_first (Part.Chain levels.Or) _ c.in_ok-b.ensures.reads.leads)) (leads_first (Part.Exactly symbols.Comma) _ c.in_ok-symbol-2.ensures.ok.leads)) (fault_first (Part.Chain levels.Or) _ (c.in_err-c.ensures)))

pub call_of_three-returns-in_err-close_bracket : goal.call_of_three-returns-in_err-close_bracket
call_of_three-returns-in_err-close_bracket t c =
    let fault = err_from_is_err_and c.from_residual-in_err-close_bracket.result c.from_residual-in_err-close_bracket.ensures.1 in
    rw (fault.1, fault.2) (fault_then (leads_then (leads_then (leads_then (leads_then (leads_then (leads_first (Part.Exactly symbols.OpenRound) _ c.in_ok-open_bracket.ensures.ok.leads) (leads_first (Part.Chain levels.Or) _ c.in_ok-a.ensures.reads.leads)) (leads_first (Part.Exactly symbols.Comma) _ c.in_ok-symbol.ensures.ok.leads)) (leads_first (Part.Chain levels.Or) _ c.in_ok-b.ensures.reads.leads)) (leads_first (Part.Exactly symbols.Comma) _ c.in_ok-symbol-2.ensures.ok.leads)) (leads_first (Part.Chain levels.Or) _ c.in_ok-c.ensures.reads.leads)) (fault_first (Part.Exactly symbols.CloseRound) _ (inr c.in_err-close_bracket.ensures.err)))

pub call_of_three-returns : goal.call_of_three-returns
call_of_three-returns t c = made _ _ c.three.result c.three.ensures (λ e is. rw is (three_read c.args.op c.args.place _ _ _ _ _ _ _ _ _ _ _ c.in_ok-open_bracket.ensures.ok c.in_ok-a.ensures c.in_ok-symbol.ensures.ok c.in_ok-b.ensures c.in_ok-symbol-2.ensures.ok c.in_ok-c.ensures c.in_ok-close_bracket.ensures.ok))

pub rescaling-returns-in_err-open_bracket : goal.rescaling-returns-in_err-open_bracket
rescaling-returns-in_err-open_bracket t c =
    let fault = err_from_is_err_and c.from_residual.result c.from_residual.ensures.1 in
    rw (fault.1, fault.2) (fault_first (Part.Exactly symbols.OpenRound) _ (inr c.in_err-open_bracket.ensures.err))

pub rescaling-returns-in_err-number : goal.rescaling-returns-in_err-number
rescaling-returns-in_err-number t c =
    let fault = err_from_is_err_and c.from_residual-in_err-number.result c.from_residual-in_err-number.ensures.1 in
    rw (fault.1, fault.2) (fault_then (leads_first (Part.Exactly symbols.OpenRound) _ c.in_ok-open_bracket.ensures.ok.leads) (fault_first Part.Number _ (inr c.in_err-number.ensures.err)))

pub rescaling-returns-in_err-symbol : goal.rescaling-returns-in_err-symbol
rescaling-returns-in_err-symbol t c =
    let fault = err_from_is_err_and c.from_residual-in_err-symbol.result c.from_residual-in_err-symbol.ensures.1 in
    rw (fault.1, fault.2) (fault_then (leads_then (leads_first (Part.Exactly symbols.OpenRound) _ c.in_ok-open_bracket.ensures.ok.leads) (leads_first Part.Number _ c.in_ok-number.ensures.ok.leads)) (fault_first (Part.Exactly symbols.Comma) _ (inr c.in_err-symbol.ensures.err)))

pub rescaling-returns-in_err-inner : goal.rescaling-returns-in_err-inner
rescaling-returns-in_err-inner t c =
    let fault = err_from_is_err_and c.from_residual-in_err-inner.result c.from_residual-in_err-inner.ensures.1 in
    rw (fault.1, fault.2) (fault_then (leads_then (leads_then (leads_first (Part.Exactly symbols.OpenRound) _ c.in_ok-open_bracket.ensures.ok.leads) (leads_first Part.Number _ c.in_ok-number.ensures.ok.leads)) (leads_first (Part.Exactly symbols.Comma) _ c.in_ok-symbol.ensures.ok.leads)) (fault_first (Part.Chain levels.Or) _ (c.in_err-inner.ensures)))

pub rescaling-returns-in_err-close_bracket : goal.rescaling-returns-in_err-close_bracket
rescaling-returns-in_err-close_bracket t c =
    let fault = err_from_is_err_and c.from_residual-in_err-close_bracket.result c.from_residual-in_err-close_bracket.ensures.1 in
    rw (fault.1, fault.2) (fault_then (leads_then (leads_then (leads_then (leads_first (Part.Exactly symbols.OpenRound) _ c.in_ok-open_bracket.ensures.ok.leads) (leads_first Part.Number _ c.in_ok-number.ensures.ok.leads)) (leads_first (Part.Exactly symbols.Comma) _ c.in_ok-symbol.ensures.ok.leads)) (leads_first (Part.Chain levels.Or) _ c.in_ok-inner.ensures.reads.leads)) (fault_first (Part.Exactly symbols.CloseRound) _ (inr c.in_err-close_bracket.ensures.err)))

pub rescaling-returns : goal.rescaling-returns
rescaling-returns t c = made _ _ c.to.result c.to.ensures (λ e is. rw is (to_read _ c.args.place _ _ _ _ _ _ _ _ c.in_ok-open_bracket.ensures.ok c.in_ok-number.ensures.ok c.scale_from-scale.ensures c.in_ok-symbol.ensures.ok c.in_ok-inner.ensures c.in_ok-close_bracket.ensures.ok))

pub call-returns-in_err-place : goal.call-returns-in_err-place
call-returns-in_err-place t c =
    let fault = err_from_is_err_and c.from_residual.result c.from_residual.ensures.1 in
    rw (fault.1, fault.2) (inr (call_full c.args.call c.args.self.now _ c.requires c.in_err-place.ensures.err))

pub call-returns-in_err-inner-in-One : goal.call-returns-in_err-inner-in-One
call-returns-in_err-inner-in-One t c =
    let fault = err_from_is_err_and c.from_residual-in_err-inner-in-One.result c.from_residual-in_err-inner-in-One.ensures.1 in
    let lead = rw c.in-One.is at (call_leads c.args.call _ c.args.self.now _ c.requires c.in_ok-place.ensures.ok) in
    rw (fault.1, fault.2) (fault_then lead c.in_err-inner-in-One.ensures)

pub call-returns-in_ok-inner-in-One : goal.call-returns-in_ok-inner-in-One
call-returns-in_ok-inner-in-One t c =
    let called = rw c.in-One.is at c.requires in
    made _ _ c.one.result c.one.ensures (λ e is. rw is (call_read _ c.in_ok-place.place c.args.self.now c.node.new.self _ _ called c.in_ok-place.ensures.ok (one_read c.in-One.op c.in_ok-place.place _ _ _ c.in_ok-inner-in-One.ensures)))

pub call-returns-in-Two : goal.call-returns-in-Two
call-returns-in-Two t c = let called = rw c.in-Two.is at c.requires in call_done _ c.in_ok-place.place c.args.self.now c.node.new.self _ _ called c.in_ok-place.ensures.ok c.call_of_two.ensures

pub call-returns-in-Three : goal.call-returns-in-Three
call-returns-in-Three t c = let called = rw c.in-Three.is at c.requires in call_done _ c.in_ok-place.place c.args.self.now c.node.new.self _ _ called c.in_ok-place.ensures.ok c.call_of_three.ensures

pub call-returns-in-To : goal.call-returns-in-To
call-returns-in-To t c = let called = rw c.in-To.is at c.requires in call_done _ c.in_ok-place.place c.args.self.now c.node.new.self _ _ called c.in_ok-place.ensures.ok c.rescaling.ensures

pub chain-loop-op-init : goal.chain-loop-op-init
chain-loop-op-init t c = joins_first c.args.level c.args.self.now _ _ c.in_ok-left.ensures

pub chain-returns-in_err-left : goal.chain-returns-in_err-left
chain-returns-in_err-left t c =
    let fault = err_from_is_err_and c.from_residual.result c.from_residual.ensures.1 in
    rw (fault.1, fault.2) (fault_then (chain_expands c.args.level c.args.self.now) (fault_first (operand c.args.level) _ c.in_err-left.ensures))

pub chain-loop-op-preserved : goal.chain-loop-op-preserved
chain-loop-op-preserved t c = rw c.in_ok-left-2.ensures (joins_more c.args.level c.args.self.now c.loop-op.self c.node.new.self _ _ _ _ _ c.loop-op.invariant (ap (binary_of c.args.level) (sym c.next.ensures) ∙ sym c.in-Some.ensures) c.in_ok-place.ensures.ok c.in_ok-right.ensures)

pub chain-loop-op-smaller : goal.chain-loop-op-smaller
chain-loop-op-smaller t c = strictly_shorter _ _ _ _ c.in_ok-place.ensures.ok.rest c.in_ok-right.ensures.reads.shorter

pub chain-returns : goal.chain-returns
chain-returns t c = joins_all c.args.level c.args.self.now c.loop-op.self _ c.loop-op.invariant (ap (binary_of c.args.level) (sym c.next.ensures) ∙ sym c.in_default.ensures)

pub chain-returns-in_err-place : goal.chain-returns-in_err-place
chain-returns-in_err-place t c =
    let fault = err_from_is_err_and c.from_residual-in_err-place.result c.from_residual-in_err-place.ensures.1 in
    rw (fault.1, fault.2) (fault_then c.loop-op.invariant.leads (inr (binary_full c.args.level c.loop-op.self _ _ (ap (binary_of c.args.level) (sym c.next.ensures) ∙ sym c.in-Some.ensures) c.in_err-place.ensures.err)))

pub chain-returns-in_err-right : goal.chain-returns-in_err-right
chain-returns-in_err-right t c =
    let fault = err_from_is_err_and c.from_residual-in_err-right.result c.from_residual-in_err-right.ensures.1 in
    rw (fault.1, fault.2) (fault_then (joins_leads c.args.level c.args.self.now c.loop-op.self c.node.new.self _ _ _ c.loop-op.invariant (ap (binary_of c.args.level) (sym c.next.ensures) ∙ sym c.in-Some.ensures) c.in_ok-place.ensures.ok) (fault_first (operand c.args.level) _ c.in_err-right.ensures))

pub chain-returns-in_err-left-2 : goal.chain-returns-in_err-left-2
chain-returns-in_err-left-2 t c =
    let fault = err_from_is_err_and c.from_residual-in_err-left-2.result c.from_residual-in_err-left-2.ensures.1 in
    rw (fault.1, fault.2) (inl c.in_err-left-2.ensures)

pub operand-returns-in-And : goal.operand-returns-in-And
operand-returns-in-And t c = rw c.in-And.is c.relation.ensures

pub operand-returns-in-Or : goal.operand-returns-in-Or
operand-returns-in-Or t c = rw c.in-Or.is c.chain.ensures

pub operand-returns-in-Product : goal.operand-returns-in-Product
operand-returns-in-Product t c = rw c.in-Product.is c.unary.ensures

pub operand-returns-in-Sum : goal.operand-returns-in-Sum
operand-returns-in-Sum t c = rw c.in-Sum.is c.chain-in-Sum.ensures

pub postfix-loop-self-init : goal.postfix-loop-self-init
postfix-loop-self-init t c = picks_first c.args.self.now _ _ c.in_ok-inner.ensures

pub postfix-returns-in_err-inner : goal.postfix-returns-in_err-inner
postfix-returns-in_err-inner t c =
    let fault = err_from_is_err_and c.from_residual.result c.from_residual.ensures.1 in
    rw (fault.1, fault.2) (fault_then (post_expands c.args.self.now) (fault_first Part.Prim _ c.in_err-inner.ensures))

pub postfix-loop-self-preserved : goal.postfix-loop-self-preserved
postfix-loop-self-preserved t c =
    let next : next_kind c.loop-self.self ≡ Some (kinds.Symbol symbols.Dot) = search rules in
    rw c.in_ok-inner-2.ensures (picks_more c.args.self.now c.loop-self.self c.node.new.self _ _ _ _ c.loop-self.invariant next c.in_ok-place.ensures.ok c.in_ok-axis.ensures)

pub postfix-loop-self-smaller : goal.postfix-loop-self-smaller
postfix-loop-self-smaller t c = strictly_shorter _ _ _ _ c.in_ok-place.ensures.ok.rest c.in_ok-axis.ensures.shorter

pub postfix-returns : goal.postfix-returns
postfix-returns t c =
    let other : next_kind c.loop-self.self ≡ Some (kinds.Symbol symbols.Dot) → ⊥ = search rules in
    picks_all c.args.self.now c.loop-self.self _ c.loop-self.invariant other

pub postfix-returns-in_err-place : goal.postfix-returns-in_err-place
postfix-returns-in_err-place t c =
    let fault = err_from_is_err_and c.from_residual-in_err-place.result c.from_residual-in_err-place.ensures.1 in
    let next : next_kind c.loop-self.self ≡ Some (kinds.Symbol symbols.Dot) = search rules in
    rw (fault.1, fault.2) (fault_then c.loop-self.invariant.leads (inr (component_full c.loop-self.self _ next c.in_err-place.ensures.err)))

pub postfix-returns-in_err-axis : goal.postfix-returns-in_err-axis
postfix-returns-in_err-axis t c =
    let fault = err_from_is_err_and c.from_residual-in_err-axis.result c.from_residual-in_err-axis.ensures.1 in
    let next : next_kind c.loop-self.self ≡ Some (kinds.Symbol symbols.Dot) = search rules in
    rw (fault.1, fault.2) (fault_then (picks_leads c.args.self.now c.loop-self.self c.node.new.self _ _ c.loop-self.invariant next c.in_ok-place.ensures.ok) (fault_first Part.AxisName _ c.in_err-axis.ensures))

pub postfix-returns-in_err-inner-2 : goal.postfix-returns-in_err-inner-2
postfix-returns-in_err-inner-2 t c =
    let fault = err_from_is_err_and c.from_residual-in_err-inner-2.result c.from_residual-in_err-inner-2.ensures.1 in
    rw (fault.1, fault.2) (inl c.in_err-inner-2.ensures)

pub primary-call-requires : goal.primary-call-requires
primary-call-requires t c = (omega arith, record { word = c.in-Word.word; next_is = sym c.next.ensures ∙ ap option_copied c.in-Some.is ∙ ap Some c.in-Word.is; call_is = sym c.in-Some-call_of.ensures })

pub primary-literal-requires : goal.primary-literal-requires
primary-literal-requires t c = sym c.next.ensures ∙ ap option_copied c.in-Some.is ∙ ap Some c.in-Number.is

pub primary-variable-requires : goal.primary-variable-requires
primary-variable-requires t c = sym c.next.ensures ∙ ap option_copied c.in-Some.is ∙ ap Some c.in-Name.is

pub primary-returns-in-Name : goal.primary-returns-in-Name
primary-returns-in-Name t c = c.variable.ensures

pub primary-returns-in-Number : goal.primary-returns-in-Number
primary-returns-in-Number t c = c.literal.ensures

pub primary-returns-in-Some-call_of : goal.primary-returns-in-Some-call_of
primary-returns-in-Some-call_of t c = c.call.ensures

pub primary-returns-in-None : goal.primary-returns-in-None
primary-returns-in-None t c = rw c.unexpected-in-None.ensures (inr (refuses Part.Prim c.args.self.now refl (no_call_refuses c.in-Word.word _ (sym c.next.ensures ∙ ap option_copied c.in-Some.is ∙ ap Some c.in-Word.is) (sym c.in-None.ensures))))

pub primary-returns-in_default : goal.primary-returns-in_default
primary-returns-in_default t c = rw c.unexpected.ensures (inr (refuses Part.Prim c.args.self.now refl (rw (sym c.next.ensures ∙ ap option_copied c.in_default.is) tt)))

pub primary-returns-in_default-kind : goal.primary-returns-in_default-kind
primary-returns-in_default-kind t c = bracket_done c.in-Some.kind.now c.args.self.now _ _ (sym c.next.ensures ∙ ap option_copied c.in-Some.is) c.in_default-kind.not-Number c.in_default-kind.not-Name c.in_default-kind.not-Word c.bracketed.ensures

pub relation-returns-in_err-left : goal.relation-returns-in_err-left
relation-returns-in_err-left t c =
    let fault = err_from_is_err_and c.from_residual.result c.from_residual.ensures.1 in
    rw (fault.1, fault.2) (fault_then (rel_expands c.args.self.now) (fault_first (Part.Chain levels.Sum) _ c.in_err-left.ensures))

pub relation-returns-in_default : goal.relation-returns-in_default
relation-returns-in_default t c = rel_alone c.args.self.now _ _ c.in_ok-left.ensures (ap relation_of (sym c.next.ensures) ∙ sym c.in_default.ensures)

pub relation-returns-in_err-place : goal.relation-returns-in_err-place
relation-returns-in_err-place t c =
    let fault = err_from_is_err_and c.from_residual-in_err-place.result c.from_residual-in_err-place.ensures.1 in
    rw (fault.1, fault.2) (fault_then (rel_leads c.args.self.now _ _ c.in_ok-left.ensures) (inr (relation_full c.chain.new.self _ _ (ap relation_of (sym c.next.ensures) ∙ sym c.in-Some.ensures) c.in_err-place.ensures.err)))

pub relation-returns-in_err-right : goal.relation-returns-in_err-right
relation-returns-in_err-right t c =
    let fault = err_from_is_err_and c.from_residual-in_err-right.result c.from_residual-in_err-right.ensures.1 in
    rw (fault.1, fault.2) (fault_then (rel_leads_on c.args.self.now c.chain.new.self c.node.new.self _ _ _ c.in_ok-left.ensures (ap relation_of (sym c.next.ensures) ∙ sym c.in-Some.ensures) c.in_ok-place.ensures.ok) c.in_err-right.ensures)

pub relation-returns : goal.relation-returns
relation-returns t c = made _ _ c.two.result c.two.ensures (λ e is. rw is (rel_both c.args.self.now c.chain.new.self c.node.new.self _ _ _ _ _ c.in_ok-left.ensures (ap relation_of (sym c.next.ensures) ∙ sym c.in-Some.ensures) c.in_ok-place.ensures.ok c.in_ok-right.ensures))

pub unary-returns-in_default : goal.unary-returns-in_default
unary-returns-in_default t c = MatchResult-weaker c.postfix.result c.postfix.ensures (λ e read. unary_plain c.args.self.now _ e (ap prefix_of (sym c.next.ensures) ∙ sym c.in_default.ensures) read) (λ fault fails. fault_then (stands_for_post c.args.self.now (ap prefix_of (sym c.next.ensures) ∙ sym c.in_default.ensures)) fails)

pub unary-returns-in_err-place : goal.unary-returns-in_err-place
unary-returns-in_err-place t c =
    let fault = err_from_is_err_and c.from_residual.result c.from_residual.ensures.1 in
    rw (fault.1, fault.2) (inr (prefix_full c.args.self.now _ _ (ap prefix_of (sym c.next.ensures) ∙ sym c.in-Some.ensures) c.in_err-place.ensures.err))

pub unary-returns-in_err-inner : goal.unary-returns-in_err-inner
unary-returns-in_err-inner t c =
    let fault = err_from_is_err_and c.from_residual-in_err-inner.result c.from_residual-in_err-inner.ensures.1 in
    rw (fault.1, fault.2) (fault_then (unary_leads c.args.self.now c.node.new.self _ _ (ap prefix_of (sym c.next.ensures) ∙ sym c.in-Some.ensures) c.in_ok-place.ensures.ok) c.in_err-inner.ensures)

pub unary-returns : goal.unary-returns
unary-returns t c = made _ _ c.one.result c.one.ensures (λ e is. rw is (unary_prefixed c.args.self.now c.node.new.self _ _ _ _ (ap prefix_of (sym c.next.ensures) ∙ sym c.in-Some.ensures) c.in_ok-place.ensures.ok c.in_ok-inner.ensures))

pub bracketed-chain-requires : goal.bracketed-chain-requires
bracketed-chain-requires t c = (omega (arith, c.decreases, c.in_ok-open_bracket.ensures.ok.depth, c.in_ok-open_bracket.ensures.ok.shallow), tt)
