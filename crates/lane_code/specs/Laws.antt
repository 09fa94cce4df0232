-- What valid codes keep.
use Rattle.std.specs.Prelude.{◌≡◌, ℕ, ◌<◌, true, length, take, slice_index_or, None}
use Rattle.lane_code.specs.declared.code.RawCode.{RawCode}
use Rattle.lane_code.specs.declared.instruction.Instr.{Instr}
use Rattle.lane_code.specs.Validity.{first_breach, is_fine}

-- each instruction of a valid code keeps the rules, over those before it
abbrev pub EachIsFine : Type 0
EachIsFine =
    (raw : RawCode) (n : ℕ) (d : Instr) → first_breach raw ≡ None → n < length raw.steps
    → is_fine raw (take n raw.steps) (slice_index_or raw.steps n d) ≡ true
