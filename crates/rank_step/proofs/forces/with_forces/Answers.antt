use Rattle.std.proofs.Common.{◌∙◌}
use Rattle.std.specs.List.{flat_map}
use Rattle.std.proofs.lemmas.Result.{err_from_is_err_and}
use Rattle.rank_step.proofs.ForceLemmas.{TakesFrom_forces, TakesFrom_no_fault, TakesFrom_fault}
use Rattle.rank_step.proofs.forces.with_forces.Goals as goal

pub returns-clause-forces : goal.returns-clause-forces
returns-clause-forces g c u built takes =
    c.in_ok-bodies.ensures
    ∙ TakesFrom_forces c.row_laws.ensures u c.args.t.now c.args.edge built c.args.now.now (flat_map g.H.HasLists.has c.args.lists.now) takes c.requires.ascending c.in_ok-out.out.rows.items
    c.in_ok-out.ensures.rows

pub returns-clause-no_fault : goal.returns-clause-no_fault
returns-clause-no_fault g c u built takes =
    TakesFrom_no_fault c.row_laws.ensures u c.args.t.now c.args.edge built c.args.now.now (flat_map g.H.HasLists.has c.args.lists.now) takes c.requires.ascending
    c.in_ok-out.ensures.no_fault

pub returns-in_err-out-clause-fault : goal.returns-in_err-out-clause-fault
returns-in_err-out-clause-fault g c u built takes =
    let p = err_from_is_err_and c.from_residual.result c.from_residual.ensures.1 in
    rw (p.1, p.2)
    (TakesFrom_fault c.row_laws.ensures u c.args.t.now c.args.edge built c.args.now.now (flat_map g.H.HasLists.has c.args.lists.now) takes c.requires.ascending c.in_err-out.field-0.0
    c.in_err-out.ensures.fault)
