-- What a code gives in a lane.
use Rattle.std.specs.Prelude.{ℕ, ℤ, pos, true, false, if◌then◌else◌, List, [], ◌∷◌, ◌++◌, replicate, slice_set, Option, Some, None}
use Rattle.std.specs.Option.{option_map}
use Rattle.pf_geom.specs.declared.axis.Axis.{Axis}
use Rattle.pf_model.specs.Particle.{Particle}
use Rattle.pf_model.specs.Totals.{Source}
use Rattle.lane_code.specs.declared.code.RawCode.{RawCode}
use Rattle.lane_code.specs.declared.instruction.Instr.{Instr}
use Rattle.lane_code.specs.declared.instruction.Lane.{Lane}
use Rattle.lane_code.specs.declared.instruction.Lane.TheVariants as lanes
use Rattle.lane_code.specs.Steps.{LaneState, number_at, mask_at, step}

-- a contribution to the component of a slot
pub record Given : Type 0 where
  pub slot : ℕ
  pub axis : Axis
  pub number : ℤ

-- what an act gives, by the numbers of the lane
abbrev pub given_of : List ℤ → Lane → List Given
given_of ns (lanes.Give slot axis a) = record { slot = slot; axis = axis; number = number_at ns a } ∷ []
given_of ns _ = []

-- what an instruction gives in a lane: nothing where its mask doesn't hold
abbrev pub given_by : Instr → LaneState → List Given
given_by x s = if mask_at s.masks x.under then given_of s.numbers x.act else []

-- one step after another, where the lane doesn't fault
abbrev pub and_then : {A B : Type 0} → Option A → (A → Option B) → Option B
and_then None next = None
and_then (Some value) next = next value

-- what was given before comes first
abbrev pub before : List Given → Option (List Given) → Option (List Given)
before given rest = option_map (λ others. given ++ others) rest

-- what instructions give in a lane, in their order, or none where one of them faults
abbrev pub outcome : Particle → Source → List Instr → LaneState → Option (List Given)
outcome i j [] s = Some []
outcome i j (x ∷ xs) s = before (given_by x s) (and_then (step i j x s) (outcome i j xs))

-- the lane of an item at the start: the numbers are 0, and no mask holds but mask 0
abbrev pub lane_start : RawCode → LaneState
lane_start raw = record {
  numbers = replicate raw.numbers (pos 0);
  masks = slice_set (replicate raw.masks false) 0 true;
}

-- what a code gives for a particle and an item, or none where the item's lane faults
abbrev pub lane_answer : RawCode → Particle → Source → Option (List Given)
lane_answer raw i j = outcome i j raw.steps (lane_start raw)
