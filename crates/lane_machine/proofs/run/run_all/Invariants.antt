use Rattle.std.proofs.Common.{◌≡◌, ◌-◌, ◌≤◌, length, vec_len}
use Rattle.lane_machine.specs.Columns.{start_of}
use Rattle.lane_machine.proofs.Blocks.{Through}
use Rattle.lane_machine.proofs.run.run_all.Given as goal

abbrev pub invariant-loop-first : goal.invariant-loop-first
invariant-loop-first l = record {
  within : l.first ≤ length l.items;
  through : Through l.slots l.i l.items l.steps (start_of (vec_len l.fn.registers.numbers) (vec_len l.fn.registers.masks)) l.first l.fn.totals l.totals;
  numbers : vec_len l.registers.numbers ≡ vec_len l.fn.registers.numbers;
  masks : vec_len l.registers.masks ≡ vec_len l.fn.registers.masks;
}

abbrev pub decreases-loop-first : goal.decreases-loop-first
decreases-loop-first l = length l.items - l.first
