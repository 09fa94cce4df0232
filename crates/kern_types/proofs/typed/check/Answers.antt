use Rattle.kern_types.proofs.Nodes.{few_slots}
use Rattle.kern_types.proofs.typed.check.Goals as goal

pub invariant_of-result : goal.invariant_of-result
invariant_of-result c = record {
  parsed = c.requires;
  typed = c.in_ok-check_kernel.ensures.ok;
  forces_are = rw c.as_slice.ensures at c.in_ok-forces_of.ensures;
  slots_are = few_slots c.args.k c.as_slice-2.result.now c.count_slots.result c.as_slice-2.ensures c.requires.parsed.few c.count_slots.ensures.value c.count_slots.ensures.within;
}
