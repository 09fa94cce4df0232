use Rattle.std.proofs.Common.{inr, ◌∙◌, ap, Some, sym}
use Rattle.std.proofs.lemmas.Result.{err_from_is_err_and}
use Rattle.kern_token.specs.declared.token.TokenKind.TheVariants as kinds
use Rattle.kern_parse.proofs.Leaves.{variable_read, variable_full}
use Rattle.kern_parse.proofs.reader.Reader.variable.Goals as goal

pub returns-in_err-place : goal.returns-in_err-place
returns-in_err-place c =
    let fault = err_from_is_err_and c.from_residual-in_err-place.result c.from_residual-in_err-place.ensures.1 in
    rw (fault.1, fault.2) (inr (variable_full c.args.name.now c.args.self.now _ c.requires c.in_err-place.ensures.err))

pub returns : goal.returns
returns c = variable_read c.in_ok-name.name _ c.args.self.now _ (c.requires ∙ ap (λ n. Some (kinds.Name n)) (sym c.in_ok-name.ensures.cases)) c.in_ok-place.ensures.ok
