use Rattle.std.proofs.Common.{◌∙◌, Some, ap}
use Rattle.run_model.specs.Run.{Numeric}
use Rattle.run_model.specs.declared.fault.Fault.{Fault}
use Rattle.run_moves.specs.Moves.{what_of}
use Rattle.run_moves.proofs.MoveLemmas.{named_as, kicked_is, not_fast, too_fast}
use Rattle.run_moves.proofs.moves.kicked.Goals as goal

pub returns-in-Ok-clause-kicked : goal.returns-in-Ok-clause-kicked
returns-in-Ok-clause-kicked c u m =
    c.in-Ok.ensures.kicked ∙ kicked_is u c.args.m.acc_place c.args.m.dt (record { body = c.args.body; forces = c.args.row.now }) c.acceleration.result m.place m.dt c.acceleration.ensures

pub returns-in-Ok-clause-no_fault : goal.returns-in-Ok-clause-no_fault
returns-in-Ok-clause-no_fault c u m =
    not_fast u c.args.m.acc_place c.args.m.dt (record { body = c.args.body; forces = c.args.row.now }) c.acceleration.result m.place m.dt c.acceleration.ensures c.kick.result c.kick.ensures.answer c.in-Ok.is

pub returns-in-Err-clause-fault : goal.returns-in-Err-clause-fault
returns-in-Err-clause-fault c u m =
    too_fast u c.args.m.acc_place c.args.m.dt (record { body = c.args.body; forces = c.args.row.now }) c.acceleration.result m.place m.dt c.acceleration.ensures c.kick.result c.in-Err.refused c.kick.ensures.answer c.in-Err.is
    ∙ ap (λ (f : Fault). Some (Numeric f)) (named_as _ c.args.body (what_of c.in-Err.refused) c.fault_of.result c.body.view_is c.fault_of.ensures)
