use Rattle.std.proofs.Common.{inr, inl, ⊎_elim, arith, ◌∙◌, ap, sym, subst}
use Rattle.std.proofs.lemmas.Result.{err_from_is_err_and}
use Rattle.kern_types.specs.NameLists.{common}
use Rattle.kern_types.specs.Scopes.{AreNumbers, Scope, names_at}
use Rattle.kern_types.proofs.Acts.{first_fault, second_fault, both_ended, block_smaller, other_smaller}
use Rattle.kern_types.proofs.Numbers.{stand_still, ended_there, both_grow, scope_of}
use Rattle.kern_types.proofs.statements.+statements.Goals as goal

pub check_act-check_block-requires : goal.check_act-check_block-requires
check_act-check_block-requires t c =
    (omega (arith, c.decreases, block_smaller c.in-If.condition c.in-If.block c.in-If.other c.as_slice.result.now c.args.act.now c.in-If.is c.as_slice.ensures), tt)

pub check_act-returns-in_err-check_block-in-If-clause-answer : goal.check_act-returns-in_err-check_block-in-If-clause-answer
check_act-returns-in_err-check_block-in-If-clause-answer t c =
    let fault = err_from_is_err_and c.from_residual-in_err-check_block-in-If.result c.from_residual-in_err-check_block-in-If.ensures.1 in
    rw (fault.1, fault.2)
    (⊎_elim inl (λ e. inr (first_fault c.args.decls.now c.in-If.condition c.in-If.block c.in-If.other c.args.act.now c.args.place c.args.scope.now c.in-If.is c.in_ok-check_condition-in-If.ensures c.as_slice.result.now _ c.as_slice.ensures e))
    c.in_err-check_block-in-If.ensures.answer)

pub check_act-begin_other-first-requires : goal.check_act-begin_other-first-requires
check_act-begin_other-first-requires t c =
    (stand_still c.args.scope.now.earlier c.check_block.new.scope.earlier c.in_ok-certain-in-If.certain.items c.args.scope.now.certain c.in_ok-check_block-in-If.ensures.grows c.in_ok-certain-in-If.ensures).are_numbers

pub check_act-check_block-requires-in-If : goal.check_act-check_block-requires-in-If
check_act-check_block-requires-in-If t c =
    (omega (arith, c.decreases, other_smaller c.in-If.condition c.in-If.block c.in-If.other c.as_slice-in-If.result.now c.args.act.now c.in-If.is c.as_slice-in-If.ensures), tt)

pub check_act-returns-in_err-check_block-in-If-2-clause-answer : goal.check_act-returns-in_err-check_block-in-If-2-clause-answer
check_act-returns-in_err-check_block-in-If-2-clause-answer t c =
    let fault = err_from_is_err_and c.from_residual-in_err-check_block-in-If-2.result c.from_residual-in_err-check_block-in-If-2.ensures.1 in
    let stand = stand_still c.args.scope.now.earlier c.check_block.new.scope.earlier c.in_ok-certain-in-If.certain.items c.args.scope.now.certain c.in_ok-check_block-in-If.ensures.grows c.in_ok-certain-in-If.ensures in
    rw (fault.1, fault.2)
    (⊎_elim inl (λ e. inr (second_fault c.args.decls.now c.in-If.condition c.in-If.block c.in-If.other c.args.act.now c.args.place c.args.scope.now c.in-If.is c.in_ok-check_condition-in-If.ensures c.as_slice.result.now c.as_slice-in-If.result.now c.check_block.new.scope c.begin_other-first.new.self _ c.as_slice.ensures c.as_slice-in-If.ensures c.in_ok-check_block-in-If.ensures.answer c.begin_other-first.ensures.begun (sym stand.are_named) _ e))
    c.in_err-check_block-in-If-2.ensures.answer)

pub check_act-join-requires : goal.check_act-join-requires
check_act-join-requires t c =
    let begun = ap (λ (s : Scope). s.earlier) c.begin_other-first.ensures.begun in
    let stand = ended_there c.check_block.new.scope c.begin_other-first.new.self c.check_block-in-If.new.scope c.begin_other-first.result.items c.begin_other-first.ensures.ended begun c.in_ok-check_block-in-If-2.ensures.grows in
    subst (AreNumbers c.check_block-in-If.new.scope.earlier) (sym c.as_slice-in-If-2.ensures.value) stand.are_numbers

pub check_act-returns-in_ok-check_block-in-If-2-clause-answer : goal.check_act-returns-in_ok-check_block-in-If-2-clause-answer
check_act-returns-in_ok-check_block-in-If-2-clause-answer t c =
    let stand = stand_still c.args.scope.now.earlier c.check_block.new.scope.earlier c.in_ok-certain-in-If.certain.items c.args.scope.now.certain c.in_ok-check_block-in-If.ensures.grows c.in_ok-certain-in-If.ensures in
    let begun = ap (λ (s : Scope). s.earlier) c.begin_other-first.ensures.begun in
    let ended = ended_there c.check_block.new.scope c.begin_other-first.new.self c.check_block-in-If.new.scope c.begin_other-first.result.items c.begin_other-first.ensures.ended begun c.in_ok-check_block-in-If-2.ensures.grows in
    both_ended c.args.decls.now c.in-If.condition c.in-If.block c.in-If.other c.args.act.now c.args.place c.args.scope.now c.in-If.is c.in_ok-check_condition-in-If.ensures c.as_slice.result.now c.as_slice-in-If.result.now c.check_block.new.scope c.begin_other-first.new.self _ c.as_slice.ensures c.as_slice-in-If.ensures c.in_ok-check_block-in-If.ensures.answer c.begin_other-first.ensures.begun (sym stand.are_named)
    c.check_block-in-If.new.scope c.join.new.self c.in_ok-check_block-in-If-2.ensures.answer
    (c.join.ensures ∙ ap (λ numbers. scope_of c.check_block-in-If.new.scope.earlier (common (names_at c.check_block-in-If.new.scope.earlier numbers) c.check_block-in-If.new.scope.certain)) c.as_slice-in-If-2.ensures.value
    ∙ ap (λ names. scope_of c.check_block-in-If.new.scope.earlier (common names c.check_block-in-If.new.scope.certain)) (sym ended.are_named))

pub check_act-returns-in_ok-check_block-in-If-2-clause-grows : goal.check_act-returns-in_ok-check_block-in-If-2-clause-grows
check_act-returns-in_ok-check_block-in-If-2-clause-grows t c =
    both_grow c.args.scope.now c.check_block.new.scope c.begin_other-first.new.self c.check_block-in-If.new.scope c.join.new.self c.in_ok-check_block-in-If.ensures.grows
    (ap (λ (s : Scope). s.earlier) c.begin_other-first.ensures.begun) c.in_ok-check_block-in-If-2.ensures.grows (ap (λ (s : Scope). s.earlier) c.join.ensures)
