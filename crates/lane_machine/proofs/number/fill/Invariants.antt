use Rattle.std.proofs.Common.{◌≡◌, ◌<◌, ℕ, pos, Some, length, slice_index_or}
use Rattle.lane_machine.specs.Block.{step_at, with_number_at}
use Rattle.lane_machine.proofs.number.fill.Given as goal

abbrev pub invariant-loop-l : goal.invariant-loop-l
invariant-loop-l l = record {
  long : length l.out ≡ 64;
  lanes : (k : ℕ) → k < l.l → step_at l.i l.items l.instr l.numbers l.masks k
      ≡ Some (with_number_at l.numbers l.masks k l.instr.out (slice_index_or l.out k (pos 0)));
}
