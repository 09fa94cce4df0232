use Rattle.std.proofs.Common.{arith}
use Rattle.force_phase.proofs.RowLemmas.{forces_answer, stop_answer, pair_stops}
use Rattle.force_phase.proofs.force.forces_on.Goals as goal

pub row-requires-clause-few : goal.row-requires-clause-few
row-requires-clause-few c =
    rw c.forces.ensures (omega (arith, c.forces_and_slots_are_few.ensures c.args.t.now c.kernel-kernel.ensures.parsed))

pub returns-in-Ok-clause-ok : goal.returns-in-Ok-clause-ok
returns-in-Ok-clause-ok c =
    forces_answer c.args.edge c.args.t.now c.args.i.now c.args.partners.now c.gather_pairs.new.work.tallies.items c.in-Ok.ensures.no_fault c.in-Ok.ensures.gathered c.row.new.numbers c.row.result
    (rw (c.forces.ensures, c.deref.ensures.value) at c.row.ensures.row) (rw (c.forces.ensures, c.deref.ensures.value) at c.row.ensures.no_fault)

pub returns-in-Ok-clause-fault : goal.returns-in-Ok-clause-fault
returns-in-Ok-clause-fault c =
    stop_answer c.args.edge c.args.t.now c.args.i.now c.args.partners.now c.gather_pairs.new.work.tallies.items c.in-Ok.ensures.no_fault c.in-Ok.ensures.gathered c.row.result (rw (c.forces.ensures, c.deref.ensures.value) at c.row.ensures.fault)

pub returns-in-Err-clause-fault : goal.returns-in-Err-clause-fault
returns-in-Err-clause-fault c = λ entries are. pair_stops c.args.edge c.args.t.now c.args.i.now entries c.args.partners.now are c.in-Err.what c.in-Err.ensures.fault
