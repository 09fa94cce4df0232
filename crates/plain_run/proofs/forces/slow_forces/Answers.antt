use Rattle.std.proofs.Common.{Option, sym, ◌∙◌, subst, arith}
use Rattle.run_model.specs.declared.fault.What.{What}
use Rattle.run_model.specs.Force.{force_row}
use Rattle.plain_run.specs.Forces.{IsForceStop}
use Rattle.plain_run.proofs.PairLemmas.{pair_first, then_sums}
use Rattle.plain_run.proofs.forces.slow_forces.Goals as goal

pub row_of-requires-clause-few : goal.row_of-requires-clause-few
row_of-requires-clause-few c =
    let few = c.forces_and_slots_are_few.ensures c.args.t.now c.kernel-kernel.ensures.parsed in
    omega (arith, few)

pub returns-in-Some-clause-fault : goal.returns-in-Some-clause-fault
returns-in-Some-clause-fault c = pair_first c.args.edge c.args.t.now c.args.entries.now c.args.i.now c.in-Some.what (sym c.in-Some.is ∙ c.first_pair_fault.ensures.value)

pub returns-in-Ok-clause-forces : goal.returns-in-Ok-clause-forces
unfolding force_row
returns-in-Ok-clause-forces c = c.from_vec.ensures ∙ c.in-Ok.ensures.row

pub returns-in-Ok-clause-no_fault : goal.returns-in-Ok-clause-no_fault
returns-in-Ok-clause-no_fault c = then_sums c.args.edge c.args.t.now c.args.entries.now c.args.i.now (sym c.in_default.is ∙ c.first_pair_fault.ensures.value) ∙ c.in-Ok.ensures.no_fault

pub returns-clause-fault : goal.returns-clause-fault
returns-clause-fault c =
    subst (λ (o : Option What). IsForceStop o c.in-Err.stop) (sym (then_sums c.args.edge c.args.t.now c.args.entries.now c.args.i.now (sym c.in_default.is ∙ c.first_pair_fault.ensures.value))) c.in-Err.ensures.fault
