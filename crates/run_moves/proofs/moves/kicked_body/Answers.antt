use Rattle.std.proofs.Common.{◌≡◌, subst, None, Some}
use Rattle.std.specs.Prelude.{IfOk, OnOk, IfErr}
use Rattle.run_model.specs.Run.{WithForces, Numeric, kicked_body, kick_fault}
use Rattle.run_moves.proofs.moves.kicked_body.Goals as goal
use Rattle.run_moves.proofs.MoveLemmas.{same_forced}

pub returns-clause-kicked : goal.returns-clause-kicked
returns-clause-kicked c u m =
    let P : WithForces → Type 0 = λ b. IfOk c.kicked.result (λ after. after ≡ kicked_body u b) in
    subst P (same_forced _ _ c.as_slice.result.now c.args.forced.now c.as_slice.ensures c.forced.view_is) (c.kicked.ensures.kicked u m)

pub returns-clause-no_fault : goal.returns-clause-no_fault
returns-clause-no_fault c u m =
    let P : WithForces → Type 0 = λ b. OnOk c.kicked.result (kick_fault u b ≡ None) in
    subst P (same_forced _ _ c.as_slice.result.now c.args.forced.now c.as_slice.ensures c.forced.view_is) (c.kicked.ensures.no_fault u m)

pub returns-clause-fault : goal.returns-clause-fault
returns-clause-fault c u m =
    let P : WithForces → Type 0 = λ b. IfErr c.kicked.result (λ f. kick_fault u b ≡ Some (Numeric f)) in
    subst P (same_forced _ _ c.as_slice.result.now c.args.forced.now c.as_slice.ensures c.forced.view_is) (c.kicked.ensures.fault u m)
