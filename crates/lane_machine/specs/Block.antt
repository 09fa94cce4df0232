-- Instructions in all lanes of a block.
use Rattle.std.specs.Global.{Box}
use Rattle.std.specs.Prelude.{◌≡◌, ◌<◌, ℕ, ℤ, Bool, List, [], slice_index_or, slice_set, Option, None}
use Rattle.pf_model.specs.Particle.{Particle}
use Rattle.pf_model.specs.Totals.{Source}
use Rattle.lane_code.specs.declared.instruction.Instr.{Instr}
use Rattle.lane_code.specs.Steps.{LaneState, step}
use Rattle.lane_machine.specs.declared.registers.Registers.{Registers}
use Rattle.lane_machine.specs.Columns.{lane_of, numbers_at, masks_at}

-- what stands for an item where there is none
abbrev pub no_item : Source
no_item = record { at = record { x = 0; y = 0; z = 0 }; mass = 0; attr = []; count = 0 }

-- the item of a lane
abbrev pub item_at : List Source → ℕ → Source
item_at items lane = slice_index_or items lane no_item

-- a lane after an instruction, or none where it faults
abbrev pub step_at : Particle → List Source → Instr → List (Box (List ℤ)) → List (Box (List Bool)) → ℕ → Option LaneState
step_at i items x numbers masks lane = step i (item_at items lane) x (lane_of numbers masks lane)

-- a lane with a number in a register
abbrev pub with_number_at : List (Box (List ℤ)) → List (Box (List Bool)) → ℕ → ℕ → ℤ → LaneState
with_number_at numbers masks lane out value =
    record { numbers = slice_set (numbers_at numbers lane) out value; masks = masks_at masks lane }

-- a lane with a truth value in a mask
abbrev pub with_mask_at : List (Box (List ℤ)) → List (Box (List Bool)) → ℕ → ℕ → Bool → LaneState
with_mask_at numbers masks lane out truth =
    record { numbers = numbers_at numbers lane; masks = slice_set (masks_at masks lane) out truth }

-- some lane of so many faults
pub record SomeLaneFaults {X : Type 0} (count : ℕ) (after : ℕ → Option X) : Type 0 where
  pub lane : ℕ
  pub within : lane < count
  pub none : after lane ≡ None

-- the registers of a lane
abbrev pub lane_in : Registers → ℕ → LaneState
lane_in registers lane = lane_of registers.numbers.items registers.masks.items lane

abbrev pub step_in : Particle → List Source → Instr → Registers → ℕ → Option LaneState
step_in i items x registers lane = step i (item_at items lane) x (lane_in registers lane)
