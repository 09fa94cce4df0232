use Rattle.std.proofs.Common.{◌≡◌, ◌<◌, ℕ, false, Some, length, slice_index_or}
use Rattle.lane_code.specs.Steps as steps
use Rattle.lane_code.specs.Steps.{truth_of_act}
use Rattle.lane_machine.specs.Columns.{lane_of}
use Rattle.lane_machine.proofs.mask.fill.Given as goal

abbrev pub invariant-loop-l : goal.invariant-loop-l
invariant-loop-l l = record {
  long : length l.out ≡ 64;
  lanes : (k : ℕ) → k < l.l
      → truth_of_act (steps.mask_at (lane_of l.numbers l.masks k).masks l.instr.under) (lane_of l.numbers l.masks k) l.instr.act
      ≡ Some (slice_index_or l.out k false);
}
