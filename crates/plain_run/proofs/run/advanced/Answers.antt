use Rattle.std.proofs.Common.{◌≡◌, ◌-◌, suc, subst, arith}
use Rattle.run_model.specs.Run.{Numeric, Lists, fault_after}
use Rattle.plain_run.specs.Reaching.{IsReached}
use Rattle.run_model.specs.Answers.{StopsAt}
use Rattle.plain_run.proofs.ReachLemmas.{goes_on, stops_at, stays_past}
use Rattle.plain_run.proofs.run.advanced.Goals as goal

pub returns-in_default : goal.returns-in_default
returns-in_default c =
    let next : c.args.step ≡ suc (c.args.step - 1) = (let some = c.requires.some in omega arith) in
    stays_past c.args.run.now c.args.step (c.args.step - 1) c.args.before next c.in_default.not-At c.requires.before

pub returns-in-Ok : goal.returns-in-Ok
returns-in-Ok c =
    let next : c.args.step ≡ suc (c.args.step - 1) = (let some = c.requires.some in omega arith) in
    let at = subst (IsReached c.args.run.now (c.args.step - 1)) c.in-At.is c.requires.before in
    goes_on c.args.run.now c.args.step (c.args.step - 1) c.in-At.state c.in-Ok.now next at.0 c.in-Ok.ensures.no_fault c.in-Ok.ensures.state

pub returns-in-Err-Numeric : goal.returns-in-Err-Numeric
returns-in-Err-Numeric c =
    let next : c.args.step ≡ suc (c.args.step - 1) = (let some = c.requires.some in omega arith) in
    let at = subst (IsReached c.args.run.now (c.args.step - 1)) c.in-At.is c.requires.before in
    stops_at c.args.run.now c.args.step (c.args.step - 1) c.in-At.state (Numeric c.in-Err-Numeric.fault) next at.0
    (subst (StopsAt (fault_after c.args.run.now c.args.step c.in-At.state)) c.in-Err-Numeric.field-0-is c.in-Err-Numeric.ensures.fault)

pub returns-in-Err-Lists : goal.returns-in-Err-Lists
returns-in-Err-Lists c =
    let next : c.args.step ≡ suc (c.args.step - 1) = (let some = c.requires.some in omega arith) in
    let at = subst (IsReached c.args.run.now (c.args.step - 1)) c.in-At.is c.requires.before in
    stops_at c.args.run.now c.args.step (c.args.step - 1) c.in-At.state (Lists c.in-Err-Lists.count) next at.0
    (subst (StopsAt (fault_after c.args.run.now c.args.step c.in-At.state)) c.in-Err-Lists.field-0-is c.in-Err-Lists.ensures.fault)
