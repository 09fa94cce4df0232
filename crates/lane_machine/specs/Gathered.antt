-- What lanes give to FORCE variables.
use Rattle.std.specs.Prelude.{◌≡◌, ◌<◌, ◌+◌, ◌==◌, ℕ, zero, suc, ℤ, Bool, false, ◌&&◌, if◌then◌else◌, List, [], ◌∷◌, ◌++◌, Option, Some, None, All, fold, length, slice_get, slice_index_or}
use Rattle.pf_geom.specs.declared.axis.Axis.{Axis}
use Rattle.kern_tree.specs.declared.kernel.Combine.TheVariants.{Sum}
use Rattle.lane_code.specs.Outcome.{Given}
use Rattle.lane_code.specs.Steps.{LaneState, mask_at, number_at}
use Rattle.lane_code.specs.Validity.{is_axis}
use Rattle.lane_machine.specs.Total.{Summed, AreFew, along, joined, nothing}

-- whether this is the variable
abbrev pub is_force : ℕ → Option ℕ → Bool
is_force f None = false
is_force f (Some target) = target == f

-- whether a contribution is to a variable along an axis, where slots have these variables
abbrev pub goes_to : List ℕ → ℕ → Axis → Given → Bool
goes_to slots f axis g = is_force f (slice_get slots g.slot) && is_axis g.axis axis

-- the numbers of contributions to a variable along an axis
abbrev pub numbers_to : List ℕ → ℕ → Axis → List Given → List ℤ
numbers_to slots f axis [] = []
numbers_to slots f axis (g ∷ gs) =
    if goes_to slots f axis g then g.number ∷ numbers_to slots f axis gs else numbers_to slots f axis gs

-- what so many lanes have, one after another
abbrev pub gathered : (ℕ → List ℤ) → ℕ → List ℤ
gathered given zero = []
gathered given (suc n) = gathered given n ++ given n

abbrev pub total_at : List Summed → ℕ → Summed
total_at totals f = slice_index_or totals f (nothing Sum)

-- what so many lanes give is added, where slots have these variables; a variable is given at most so many numbers
pub record AddsLanes (slots : List ℕ) (given : ℕ → List Given) (count most : ℕ) (old new : List Summed) : Type 0 where
  pub same_length : length new ≡ length old
  pub combines : (f : ℕ) → (total_at new f).combine ≡ (total_at old f).combine
  pub totals :
      (f : ℕ) (axis : Axis) → f < length old → along axis (total_at new f)
      ≡ fold (joined (total_at old f).combine) (along axis (total_at old f)) (gathered (λ lane. numbers_to slots f axis (given lane)) count)
  pub few : (n : ℕ) → All (AreFew n) old → All (AreFew (n + most)) new

-- the number of a register, in a lane that a mask has
abbrev pub gift_of : ℕ → ℕ → LaneState → List ℤ
gift_of under register s = if mask_at s.masks under then number_at s.numbers register ∷ [] else []
