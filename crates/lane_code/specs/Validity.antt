-- Valid codes: each instruction is judged by those before it.
use Rattle.std.specs.Prelude.{ℕ, Bool, true, false, not, ◌&&◌, ◌||◌, ◌==◌, nat_lt, nat_le, if◌then◌else◌, List, [], ◌∷◌, ◌++◌, length, Option, Some, None}
use Rattle.std.specs.List.{list_any, list_all}
use Rattle.pf_geom.specs.declared.axis.Axis.{Axis}
use Rattle.pf_geom.specs.declared.axis.Axis.TheVariants.{X, Y, Z}
use Rattle.pf_model.specs.declared.field.Field.TheVariants as fields
use Rattle.lane_code.specs.declared.code.RawCode.{RawCode}
use Rattle.lane_code.specs.declared.instruction.Instr.{Instr}
use Rattle.lane_code.specs.declared.instruction.Lane.{Lane}
use Rattle.lane_code.specs.declared.instruction.Lane.TheVariants as lanes

-- ---- what an act reads and writes

-- the number registers that it reads
abbrev pub numbers_read : Lane → List ℕ
numbers_read (lanes.Copy a) = a ∷ []
numbers_read (lanes.Neg a) = a ∷ []
numbers_read (lanes.Abs a) = a ∷ []
numbers_read (lanes.Root a) = a ∷ []
numbers_read (lanes.Add a b) = a ∷ b ∷ []
numbers_read (lanes.Sub a b) = a ∷ b ∷ []
numbers_read (lanes.Mul a b) = a ∷ b ∷ []
numbers_read (lanes.Div a b) = a ∷ b ∷ []
numbers_read (lanes.Dot a b c d e f) = a ∷ b ∷ c ∷ d ∷ e ∷ f ∷ []
numbers_read (lanes.MulDiv a b c) = a ∷ b ∷ c ∷ []
numbers_read (lanes.Up a k) = a ∷ []
numbers_read (lanes.Down a k) = a ∷ []
numbers_read (lanes.Least a b) = a ∷ b ∷ []
numbers_read (lanes.Most a b) = a ∷ b ∷ []
numbers_read (lanes.Compare relation a b) = a ∷ b ∷ []
numbers_read (lanes.Give slot axis a) = a ∷ []
numbers_read _ = []

-- the mask registers that it reads, one of them as the mask of the lanes that it works in
abbrev pub masks_read : ℕ → Lane → List ℕ
masks_read under (lanes.And m n) = m ∷ n ∷ []
masks_read under (lanes.AndNot m n) = m ∷ n ∷ []
masks_read under (lanes.Or m n) = m ∷ n ∷ []
masks_read under _ = under ∷ []

-- whether it writes a mask register
abbrev pub makes_mask : Lane → Bool
makes_mask (lanes.Compare relation a b) = true
makes_mask (lanes.And m n) = true
makes_mask (lanes.AndNot m n) = true
makes_mask (lanes.Or m n) = true
makes_mask _ = false

-- whether it writes a number register
abbrev pub makes_number : Lane → Bool
makes_number (lanes.Give slot axis a) = false
makes_number act = not (makes_mask act)

abbrev pub is_axis : Axis → Axis → Bool
is_axis X X = true
is_axis Y Y = true
is_axis Z Z = true
is_axis _ _ = false

-- whether it gives this component of this slot
abbrev pub gives_to : ℕ → Axis → Lane → Bool
gives_to slot axis (lanes.Give other along a) = other == slot && is_axis along axis
gives_to slot axis _ = false

abbrev pub writes_number : ℕ → Instr → Bool
writes_number r x = makes_number x.act && x.out == r

abbrev pub writes_mask : ℕ → Instr → Bool
writes_mask m x = makes_mask x.act && x.out == m

abbrev pub gives : ℕ → Axis → Instr → Bool
gives slot axis x = gives_to slot axis x.act

-- ---- the rules

-- Vel is the particle's alone, Count the item's
abbrev pub is_there : Lane → Bool
is_there (lanes.LoadI fields.Count axis) = false
is_there (lanes.LoadJ fields.Vel axis) = false
is_there _ = true

-- no power of two is past 62
abbrev pub is_shifted_little : Lane → Bool
is_shifted_little (lanes.Up a k) = nat_le k 62
is_shifted_little (lanes.Down a k) = nat_le k 62
is_shifted_little _ = true

module _ (raw : RawCode) (before : List Instr) where
  -- a number register is there, and was written before
  abbrev pub is_number_known : ℕ → Bool
  is_number_known r = nat_lt r raw.numbers && list_any (writes_number r) before

  -- a mask register is there, and is mask 0 or was written before
  abbrev pub is_mask_known : ℕ → Bool
  is_mask_known m = nat_lt m raw.masks && (m == 0 || list_any (writes_mask m) before)

  -- the slot is there, and wasn't given this component before
  abbrev pub is_gift_fine : Lane → Bool
  is_gift_fine (lanes.Give slot axis a) = nat_lt slot raw.slots && not (list_any (gives slot axis) before)
  is_gift_fine _ = true

-- the register that is written is there, and isn't mask 0
abbrev pub is_write_fine : RawCode → Instr → Bool
is_write_fine raw x =
    if makes_mask x.act then nat_lt x.out raw.masks && not (x.out == 0)
    else if makes_number x.act then nat_lt x.out raw.numbers else true

-- whether an instruction keeps every rule, where these come before it
abbrev pub is_fine : RawCode → List Instr → Instr → Bool
is_fine raw before x =
    is_there x.act && (is_shifted_little x.act && (list_all (is_mask_known raw before) (masks_read x.under x.act)
    && (list_all (is_number_known raw before) (numbers_read x.act)
    && (is_write_fine raw x && is_gift_fine raw before x.act))))

-- the place of the first of these instructions that breaks a rule, where the others come before them
abbrev pub first_breach_after : RawCode → List Instr → List Instr → Option ℕ
first_breach_after raw before [] = None
first_breach_after raw before (x ∷ xs) =
    if is_fine raw before x then first_breach_after raw (before ++ x ∷ []) xs else Some (length before)

-- the place of the first instruction that breaks a rule; a valid code has none
abbrev pub first_breach : RawCode → Option ℕ
first_breach raw = first_breach_after raw [] raw.steps
