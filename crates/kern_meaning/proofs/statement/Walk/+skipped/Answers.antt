use Rattle.std.proofs.Common.{arith}
use Rattle.kern_meaning.proofs.Meanings.{if_counts, if_slots}
use Rattle.kern_meaning.proofs.statement.Walk.+skipped.Goals as goal

pub past_act-returns-in-If-clause-number : goal.past_act-returns-in-If-clause-number
past_act-returns-in-If-clause-number t c =
    omega (arith, c.past.ensures.number, c.past-between.ensures.number, if_counts c.args.self.now.decls.now c.args.self.now.coincident c.args.act.now c.in-If.field-0 c.in-If.body c.in-If.others c.as_slice.result.now c.as_slice-in-If.result.now c.in-If.is c.as_slice.ensures c.as_slice-in-If.ensures)

pub past_act-returns-in-If-clause-slot : goal.past_act-returns-in-If-clause-slot
past_act-returns-in-If-clause-slot t c =
    omega (arith, c.past.ensures.slot, c.past-between.ensures.slot, if_slots c.args.self.now.decls.now c.args.self.now.coincident c.args.act.now c.in-If.field-0 c.in-If.body c.in-If.others c.as_slice.result.now c.as_slice-in-If.result.now c.in-If.is c.as_slice.ensures c.as_slice-in-If.ensures)
