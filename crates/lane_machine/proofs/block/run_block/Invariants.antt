use Rattle.std.proofs.Common.{◌≡◌, vec_len, drop}
use Rattle.lane_machine.proofs.Underway.{Underway}
use Rattle.lane_machine.proofs.block.run_block.Given as goal

abbrev pub invariant-loop-instr : goal.invariant-loop-instr
invariant-loop-instr l = record {
  under_way : Underway l.i l.items l.slots l.steps (drop l.instr-index l.steps) l.fn.registers l.registers l.fn.totals l.totals l.instr-index;
  numbers : vec_len l.registers.numbers ≡ vec_len l.fn.registers.numbers;
  masks : vec_len l.registers.masks ≡ vec_len l.fn.registers.masks;
}
