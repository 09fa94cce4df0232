use Rattle.std.proofs.Common.{Option, ◌∙◌, ap, sym}
use Rattle.std.proofs.lemmas.Result.{err_from_is_err_and}
use Rattle.run_model.specs.Setup.{Setup}
use Rattle.run_model.specs.Force.{first_given, acc_place}
use Rattle.run_model.specs.Run.{State, Stop, move_fault}
use Rattle.run_moves.specs.Moves.{MovesBy}
use Rattle.run_model.specs.Answers.{StopsAt, of_phase}
use Rattle.plain_run.proofs.StopLemmas.{same_stop, stops_first}
use Rattle.plain_run.proofs.state.after.Goals as goal

pub returns-in_err-now-clause-fault : goal.returns-in_err-now-clause-fault
returns-in_err-now-clause-fault c =
    let p = err_from_is_err_and c.from_residual.result c.from_residual.ensures.1 in
    let u = c.args.run.now in
    let moves : MovesBy c.of-motion.result u = record {
      place = ap (λ (v : Setup). acc_place v.kernel) (sym c.run.view_is) ∙ sym c.of-motion.ensures.place;
      edge = ap (λ (v : Setup). v.theta.edge) (sym c.run.view_is) ∙ sym c.of-motion.ensures.edge;
      dt = ap (λ (v : Setup). v.dt) (sym c.run.view_is) ∙ sym c.of-motion.ensures.dt;
    } in
    let bodies = c.deref.ensures.value ∙ ap (λ (s : State). s.bodies) c.before-2.view_is in
    rw (p.1, p.2) (stops_first _ _ (of_phase c.in_err-now.field-0.0) (same_stop _ _ (of_phase c.in_err-now.field-0.0) (ap (first_given (move_fault u)) bodies)
    (c.in_err-now.ensures.fault u moves)))
