use Rattle.std.proofs.Common.{[], ◌∷◌, sym, ap, ◌∙◌, inr}
use Rattle.std.proofs.lemmas.Result.{err_from_is_err_and}
use Rattle.std.specs.Option.{option_copied}
use Rattle.kern_parse.specs.Required.{Part}
use Rattle.kern_parse.proofs.Following.{fault_first, fault_then}
use Rattle.kern_parse.proofs.Whole.{in_limit, read_leads, kernel_read, rest_read, fault_read, gives, gives_fault}
use Rattle.kern_parse.proofs.reading.parse.Goals as goal

pub new-reader-requires : goal.new-reader-requires
new-reader-requires c = in_limit c.tokens_stand_in_order.ensures.stand c.requires.0 c.args.toks.now c.requires.1

pub returns-in_err-decls-clause-err : goal.returns-in_err-decls-clause-err
returns-in_err-decls-clause-err c =
    let fault = err_from_is_err_and c.from_residual.result c.from_residual.ensures.1 in
    let fails = rw c.new-reader.ensures at c.in_err-decls.ensures in
    rw (fault.1, fault.2) (fault_read c.trees_by_form.ensures c.tokens_stand_in_order.ensures.stand c.tokens_stand_in_order.ensures.in_order c.requires.0 c.args.toks.now _ c.requires.1 (fault_first Part.Decls (Part.Stmts ∷ []) fails))

pub returns-in_err-decls-clause-exact : goal.returns-in_err-decls-clause-exact
returns-in_err-decls-clause-exact c =
    let fault = err_from_is_err_and c.from_residual.result c.from_residual.ensures.1 in
    let fails = rw c.new-reader.ensures at c.in_err-decls.ensures in
    rw (fault.1, fault.2) (λ parsed. gives_fault c.one_answer.ensures c.args.toks.now _ parsed (fault_read c.trees_by_form.ensures c.tokens_stand_in_order.ensures.stand c.tokens_stand_in_order.ensures.in_order c.requires.0 c.args.toks.now _ c.requires.1 (fault_first Part.Decls (Part.Stmts ∷ []) fails)))

pub returns-in_err-body-clause-err : goal.returns-in_err-body-clause-err
returns-in_err-body-clause-err c =
    let fault = err_from_is_err_and c.from_residual-in_err-body.result c.from_residual-in_err-body.ensures.1 in
    let declared = rw c.new-reader.ensures at c.in_ok-decls.ensures in
    rw (fault.1, fault.2) (fault_read c.trees_by_form.ensures c.tokens_stand_in_order.ensures.stand c.tokens_stand_in_order.ensures.in_order c.requires.0 c.args.toks.now _ c.requires.1 (fault_then (read_leads c.args.toks.now _ _ declared) c.in_err-body.ensures))

pub returns-in_err-body-clause-exact : goal.returns-in_err-body-clause-exact
returns-in_err-body-clause-exact c =
    let fault = err_from_is_err_and c.from_residual-in_err-body.result c.from_residual-in_err-body.ensures.1 in
    let declared = rw c.new-reader.ensures at c.in_ok-decls.ensures in
    rw (fault.1, fault.2) (λ parsed. gives_fault c.one_answer.ensures c.args.toks.now _ parsed (fault_read c.trees_by_form.ensures c.tokens_stand_in_order.ensures.stand c.tokens_stand_in_order.ensures.in_order c.requires.0 c.args.toks.now _ c.requires.1 (fault_then (read_leads c.args.toks.now _ _ declared) c.in_err-body.ensures)))

pub returns-in-None-clause-ok : goal.returns-in-None-clause-ok
returns-in-None-clause-ok c =
    let declared = rw c.new-reader.ensures at c.in_ok-decls.ensures in
    kernel_read c.trees_by_form.ensures c.args.toks.now _ _ _ _ declared c.in_ok-body.ensures (sym c.next.ensures ∙ ap option_copied c.in-None.is)

pub returns-in-None-clause-exact : goal.returns-in-None-clause-exact
returns-in-None-clause-exact c =
    let declared = rw c.new-reader.ensures at c.in_ok-decls.ensures in
    λ parsed. gives c.one_answer.ensures c.args.toks.now _ parsed (kernel_read c.trees_by_form.ensures c.args.toks.now _ _ _ _ declared c.in_ok-body.ensures (sym c.next.ensures ∙ ap option_copied c.in-None.is))

pub returns-in-Some-clause-err : goal.returns-in-Some-clause-err
returns-in-Some-clause-err c =
    let declared = rw c.new-reader.ensures at c.in_ok-decls.ensures in
    rw c.unexpected.ensures (inr (rest_read c.trees_by_form.ensures c.tokens_stand_in_order.ensures.stand c.tokens_stand_in_order.ensures.in_order c.requires.0 c.args.toks.now _ _ _ _ _ c.requires.1 declared c.in_ok-body.ensures (sym c.next.ensures ∙ ap option_copied c.in-Some.is)))

pub returns-in-Some-clause-exact : goal.returns-in-Some-clause-exact
returns-in-Some-clause-exact c =
    let declared = rw c.new-reader.ensures at c.in_ok-decls.ensures in
    rw c.unexpected.ensures (λ parsed. gives_fault c.one_answer.ensures c.args.toks.now _ parsed (inr (rest_read c.trees_by_form.ensures c.tokens_stand_in_order.ensures.stand c.tokens_stand_in_order.ensures.in_order c.requires.0 c.args.toks.now _ _ _ _ _ c.requires.1 declared c.in_ok-body.ensures (sym c.next.ensures ∙ ap option_copied c.in-Some.is))))
