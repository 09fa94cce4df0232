use Rattle.std.proofs.Common.{ap, ◌∙◌, sym}
use Rattle.std.proofs.lemmas.Result.{err_from_is_err_and}
use Rattle.kern_parse.specs.inner.Decls.{start_of}
use Rattle.kern_parse.proofs.Declarations.{decls_more, decls_all, start_tells}
use Rattle.kern_parse.proofs.Following.{fault_then}
use Rattle.kern_parse.proofs.reader.Reader.declarations.Goals as goal

pub returns : goal.returns
returns c = decls_all c.args.self.now c.loop-start.self c.loop-start.decls c.loop-start.invariant (ap start_of (sym c.next.ensures) ∙ sym c.in_default.ensures)

pub declaration-requires : goal.declaration-requires
declaration-requires c = start_tells _ _ (ap start_of (sym c.next.ensures) ∙ sym c.in-Some.ensures)

pub returns-in_err-decl : goal.returns-in_err-decl
returns-in_err-decl c =
    let fault = err_from_is_err_and c.from_residual.result c.from_residual.ensures.1 in
    rw (fault.1, fault.2) (fault_then c.loop-start.invariant.leads c.in_err-decl.ensures)

pub loop-start-preserved : goal.loop-start-preserved
loop-start-preserved c = rw c.in_ok-push.ensures.ok (decls_more _ c.loop-start.self _ _ _ c.loop-start.invariant c.in_ok-decl.ensures)
