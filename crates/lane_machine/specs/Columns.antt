-- Registers as columns: one number, or one truth value, for each lane of a block.
use Rattle.std.specs.Global.{Box}
use Rattle.std.specs.Prelude.{ℕ, ℤ, pos, Bool, true, false, List, map, replicate, slice_index_or, slice_set}
use Rattle.lane_code.specs.Steps.{LaneState}

-- the numbers of a lane
abbrev pub numbers_at : List (Box (List ℤ)) → ℕ → List ℤ
numbers_at columns lane = map (λ column. slice_index_or column.value lane (pos 0)) columns

-- and its masks
abbrev pub masks_at : List (Box (List Bool)) → ℕ → List Bool
masks_at columns lane = map (λ column. slice_index_or column.value lane false) columns

-- the registers of a lane
abbrev pub lane_of : List (Box (List ℤ)) → List (Box (List Bool)) → ℕ → LaneState
lane_of numbers masks lane = record { numbers = numbers_at numbers lane; masks = masks_at masks lane }

-- a lane at the start, by how many registers it has
abbrev pub start_of : ℕ → ℕ → LaneState
start_of numbers masks = record {
  numbers = replicate numbers (pos 0);
  masks = slice_set (replicate masks false) 0 true;
}
