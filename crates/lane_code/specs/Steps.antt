-- What an instruction does in a lane: one item of a list against one particle.
use Rattle.std.specs.Prelude.{ℕ, ◌^◌, ℤ, pos, ◌+ℤ◌, ◌-ℤ◌, ◌*ℤ◌, neg_ℤ, unsigned_abs, int_div, int_le, int_lt, Bool, true, false, not, ◌&&◌, ◌||◌, if◌then◌else◌, List, [], ◌∷◌, slice_index_or, slice_set, Option, Some, None, Result, Ok, Err}
use Rattle.std.specs.Ordering.{int_eq}
use Rattle.pf_num.specs.declared.fault.NumFault.{NumFault}
use Rattle.pf_num.specs.Exact.{exact}
use Rattle.pf_num.specs.InnerProduct.{inner_product}
use Rattle.pf_num.specs.Quotient.{exact_quotient}
use Rattle.pf_num.specs.SquareRoot.{exact_root}
use Rattle.pf_geom.specs.declared.axis.Axis.{Axis}
use Rattle.pf_geom.specs.declared.axis.Axis.TheVariants.{X, Y, Z}
use Rattle.pf_model.specs.Fields.{field_of_particle, field_of_source}
use Rattle.pf_model.specs.Particle.{Particle}
use Rattle.pf_model.specs.Totals.{Source}
use Rattle.lane_code.specs.declared.instruction.Instr.{Instr}
use Rattle.lane_code.specs.declared.instruction.Lane.{Lane}
use Rattle.lane_code.specs.declared.instruction.Lane.TheVariants as lanes
use Rattle.lane_code.specs.declared.instruction.Relation.{Relation}
use Rattle.lane_code.specs.declared.instruction.Relation.TheVariants as relations

-- the registers of a lane
pub record LaneState : Type 0 where
  pub numbers : List ℤ
  pub masks : List Bool

abbrev pub number_at : List ℤ → ℕ → ℤ
number_at numbers r = slice_index_or numbers r (pos 0)

abbrev pub mask_at : List Bool → ℕ → Bool
mask_at masks m = slice_index_or masks m false

-- the component along an axis of a field with these components: a number stands along x, and what isn't there is 0
abbrev pub component : Axis → List ℤ → ℤ
component X parts = slice_index_or parts 0 (pos 0)
component Y parts = slice_index_or parts 1 (pos 0)
component Z parts = slice_index_or parts 2 (pos 0)

abbrev pub are_related : Relation → ℤ → ℤ → Bool
are_related relations.Lt a b = int_lt a b
are_related relations.Le a b = int_le a b
are_related relations.Gt a b = int_lt b a
are_related relations.Ge a b = int_le b a
are_related relations.Eq a b = int_eq a b
are_related relations.Ne a b = not (int_eq a b)

-- What an act gives for a number register, by the numbers of the lane: the exact value where it is an i64, or the
-- fault. None is an act that writes no number.
abbrev pub number_of : Particle → Source → List ℤ → Lane → Option (Result ℤ NumFault)
number_of i j ns (lanes.Const value) = Some (Ok value)
number_of i j ns (lanes.LoadI field axis) = Some (Ok (component axis (field_of_particle field i)))
number_of i j ns (lanes.LoadJ field axis) = Some (Ok (component axis (field_of_source field j)))
number_of i j ns (lanes.Copy a) = Some (Ok (number_at ns a))
number_of i j ns (lanes.Neg a) = Some (exact (neg_ℤ (number_at ns a)))
number_of i j ns (lanes.Abs a) = Some (exact (pos (unsigned_abs (number_at ns a))))
number_of i j ns (lanes.Root a) = Some (exact_root (number_at ns a))
number_of i j ns (lanes.Add a b) = Some (exact (number_at ns a +ℤ number_at ns b))
number_of i j ns (lanes.Sub a b) = Some (exact (number_at ns a -ℤ number_at ns b))
number_of i j ns (lanes.Mul a b) = Some (exact (number_at ns a *ℤ number_at ns b))
number_of i j ns (lanes.Div a b) = Some (exact_quotient (number_at ns a) (number_at ns b))
number_of i j ns (lanes.Dot a b c d e f) =
    Some (exact (inner_product (number_at ns a ∷ number_at ns b ∷ number_at ns c ∷ [])
    (number_at ns d ∷ number_at ns e ∷ number_at ns f ∷ [])))
number_of i j ns (lanes.MulDiv a b c) = Some (exact_quotient (number_at ns a *ℤ number_at ns b) (number_at ns c))
number_of i j ns (lanes.Up a k) = Some (exact (number_at ns a *ℤ pos (2 ^ k)))
number_of i j ns (lanes.Down a k) = Some (exact (int_div (number_at ns a) (pos (2 ^ k))))
number_of i j ns (lanes.Least a b) =
    Some (Ok (if int_le (number_at ns a) (number_at ns b) then number_at ns a else number_at ns b))
number_of i j ns (lanes.Most a b) =
    Some (Ok (if int_le (number_at ns a) (number_at ns b) then number_at ns b else number_at ns a))
number_of i j ns _ = None

-- What an act gives for a mask register, in a lane that its own mask has or hasn't. None is an act that writes no
-- mask.
abbrev pub truth_of_act : Bool → LaneState → Lane → Option Bool
truth_of_act under s (lanes.Compare relation a b) =
    Some (under && are_related relation (number_at s.numbers a) (number_at s.numbers b))
truth_of_act under s (lanes.And m n) = Some (mask_at s.masks m && mask_at s.masks n)
truth_of_act under s (lanes.AndNot m n) = Some (mask_at s.masks m && not (mask_at s.masks n))
truth_of_act under s (lanes.Or m n) = Some (mask_at s.masks m || mask_at s.masks n)
truth_of_act under s _ = None

-- a mask is written in every lane
abbrev pub with_mask : ℕ → LaneState → Option Bool → LaneState
with_mask out s None = s
with_mask out s (Some truth) = record { numbers = s.numbers; masks = slice_set s.masks out truth }

-- a number is written where the instruction's mask holds; elsewhere nothing is written, and nothing faults
abbrev pub with_number : Bool → ℕ → LaneState → Result ℤ NumFault → Option LaneState
with_number false out s answer = Some s
with_number true out s (Ok number) = Some (record { numbers = slice_set s.numbers out number; masks = s.masks })
with_number true out s (Err fault) = None

-- by what the act gives for a number, else for a mask
abbrev pub written : Bool → ℕ → LaneState → Option (Result ℤ NumFault) → Option Bool → Option LaneState
written under out s (Some answer) truth = with_number under out s answer
written under out s None truth = Some (with_mask out s truth)

-- the lane after an instruction, or none where it faults
abbrev pub step : Particle → Source → Instr → LaneState → Option LaneState
step i j x s =
    written (mask_at s.masks x.under) x.out s (number_of i j s.numbers x.act)
    (truth_of_act (mask_at s.masks x.under) s x.act)
