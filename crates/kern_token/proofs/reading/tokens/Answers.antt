use Rattle.std.proofs.Common.{◌≡◌, length, Ok, inl, inr, ⊎_elim, arith}
use Rattle.std.proofs.lemmas.Result.{err_from_is_err_and}
use Rattle.kern_token.proofs.OneReading.{same_reading, gives_fault}
use Rattle.kern_token.proofs.PieceLists.{HasRead-more, HasRead-all, HasRead-fault}
use Rattle.kern_token.proofs.reading.tokens.Goals as goal

pub loop-rest-preserved : goal.loop-rest-preserved
loop-rest-preserved c =
    rw (c.in_ok-push_token.ensures, c.split_at.ensures.back)
    (HasRead-more c.args.text.now c.loop-rest.found.items c.loop-rest.place c.loop-rest.rest.now c.in_ok-kind.field-0 c.loop-rest.invariant c.in_ok-kind.ensures.ok)

pub returns-clause-exact : goal.returns-clause-exact
returns-clause-exact c =
    let empty : length c.loop-rest.rest.now ≡ 0 = grind arith in
    λ reading reads. same_reading c.args.text.now reading (Ok c.loop-rest.found.items) reads
    (HasRead-all c.args.text.now c.loop-rest.found.items c.loop-rest.place c.loop-rest.rest.now c.loop-rest.invariant empty)

pub returns-in_err-kind-clause-exact : goal.returns-in_err-kind-clause-exact
returns-in_err-kind-clause-exact c =
    let fault = err_from_is_err_and c.from_residual.result c.from_residual.ensures.1 in
    rw (fault.1, fault.2)
    (gives_fault c.args.text.now c.in_err-kind.field-0.0
    (⊎_elim inl (λ first. inr (HasRead-fault c.args.text.now c.loop-rest.found.items c.loop-rest.place c.loop-rest.rest.now c.in_err-kind.field-0.0 c.loop-rest.invariant first)) c.in_err-kind.ensures.err))
