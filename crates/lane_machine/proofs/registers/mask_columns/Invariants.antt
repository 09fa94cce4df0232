use Rattle.std.proofs.Common.{◌≡◌, vec_len}
use Rattle.lane_machine.proofs.registers.mask_columns.Given as goal

abbrev pub invariant-loop-register : goal.invariant-loop-register
invariant-loop-register l = vec_len l.columns ≡ l._register
