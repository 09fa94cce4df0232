use Rattle.std.proofs.Common.{inr, refl, rules, arith}
use Rattle.std.proofs.lemmas.Grind.{common_steps}
use Rattle.pf_io.proofs.ReadParts.{opened, read_on, read_count, part_read}
use Rattle.pf_io.proofs.transfer.read_all.Goals as goal

pub loop-n-init : goal.loop-n-init
loop-n-init g c = record {
  within = grind (arith, common_steps);
  room = grind (arith, common_steps);
  so_far = rw c.new-bytes.ensures.items (opened _ _ _ c.in-Ok.ensures.there c.in-Ok.ensures.opened);
  faults = search rules;
  source = search rules;
  sink = search rules;
  steady = search rules;
}

pub loop-n-preserved : goal.loop-n-preserved
loop-n-preserved g c = record {
  within = grind (arith, common_steps);
  room = grind (arith, common_steps);
  so_far =
      rw
      (c.extend_from_slice.ensures.items, c.if-is_err.ensures.negation)
      (read_on _ _ _ _ _ _ _ c.loop-n.invariant.so_far c.in-Ok-read.ensures.bytes c.in-Ok-read.ensures.taken);
  faults = search rules;
  source = search rules;
  sink = search rules;
  steady = search rules;
}

pub returns-then-len-n-clause-one_more_read : goal.returns-then-len-n-clause-one_more_read
returns-then-len-n-clause-one_more_read g c = λ _.
    let so_far = read_on _ _ _ _ _ _ _ c.loop-n.invariant.so_far c.in-Ok-read.ensures.bytes c.in-Ok-read.ensures.taken in
    read_count _ _ _ _ _ so_far (grind (arith, common_steps))

pub returns-then-n-eq0-clause-all_read : goal.returns-then-n-eq0-clause-all_read
returns-then-n-eq0-clause-all_read g c =
    let so_far = read_on _ _ _ _ _ _ _ c.loop-n.invariant.so_far c.in-Ok-read.ensures.bytes c.in-Ok-read.ensures.taken in
    read_count _ _ _ _ _ so_far (grind (arith, common_steps))

pub returns-in-Err-Memory-read-clause-part_kept : goal.returns-in-Err-Memory-read-clause-part_kept
returns-in-Err-Memory-read-clause-part_kept g c = λ _.
    inr (part_read _ _ _ _ _ _ c.loop-n.invariant.so_far c.loop-n.invariant.within c.in-Err-Memory-read.ensures.err)

pub returns-then-is_err-clause-part_kept : goal.returns-then-is_err-clause-part_kept
returns-then-is_err-clause-part_kept g c = λ _.
    let so_far = read_on _ _ _ _ _ _ _ c.loop-n.invariant.so_far c.in-Ok-read.ensures.bytes c.in-Ok-read.ensures.taken in
    inr (part_read _ _ _ _ _ _ so_far (grind (arith, common_steps)) refl)
