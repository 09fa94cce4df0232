use Rattle.std.proofs.Common.{subst}
use Rattle.run_model.specs.Run.{Numeric, Lists, fault_at_start}
use Rattle.run_model.specs.Answers.{StopsAt}
use Rattle.plain_run.proofs.ReachLemmas.{starts, stops_at_start}
use Rattle.plain_run.proofs.run.begun.Goals as goal

pub returns-in-Ok : goal.returns-in-Ok
returns-in-Ok c = starts c.args.run.now c.in-Ok.now c.in-Ok.ensures.no_fault c.in-Ok.ensures.state

pub returns-in-Err-Numeric : goal.returns-in-Err-Numeric
returns-in-Err-Numeric c = stops_at_start c.args.run.now (Numeric c.in-Err-Numeric.fault) (subst (StopsAt (fault_at_start c.args.run.now)) c.in-Err-Numeric.field-0-is c.in-Err-Numeric.ensures.fault)

pub returns-in-Err-Lists : goal.returns-in-Err-Lists
returns-in-Err-Lists c = stops_at_start c.args.run.now (Lists c.in-Err-Lists.count) (subst (StopsAt (fault_at_start c.args.run.now)) c.in-Err-Lists.field-0-is c.in-Err-Lists.ensures.fault)
