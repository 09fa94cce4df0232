use Rattle.kern_types.proofs.Acts.{if_slots, limited_sum}
use Rattle.kern_types.proofs.Nodes.{if_within}
use Rattle.kern_types.proofs.contributions.+slots.Goals as goal

pub slots_of-returns-in-If : goal.slots_of-returns-in-If
slots_of-returns-in-If t c =
    let slots = if_slots c.in-If.field-0 c.in-If.block c.in-If.other c.args.act.now c.in-If.is in
    record {
      value = limited_sum _ _ _ _ _ _ 4294967295 c.saturating_add.ensures (rw c.as_slice.ensures at c.count_slots.ensures.value) (rw c.as_slice-in-If.ensures at c.count_slots-in-If.ensures.value) slots;
      within = if_within c.in-If.field-0 c.in-If.block c.in-If.other c.as_slice.result.now c.as_slice-in-If.result.now c.args.act.now c.in-If.is slots c.as_slice.ensures c.as_slice-in-If.ensures c.count_slots.ensures.within c.count_slots-in-If.ensures.within;
    }
