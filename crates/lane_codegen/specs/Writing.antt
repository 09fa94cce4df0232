-- Code as far as it is written, and what is written next.
use Rattle.std.specs.Prelude.{◌≡◌, ℕ, ◌+◌, pos, [], ◌∷◌, ◌++◌, Result, Ok, Err, IfOk}
use Rattle.kern_tree.specs.declared.kernel.Kind.{Kind}
use Rattle.kern_tree.specs.declared.kernel.Kind.TheVariants as kinds
use Rattle.kern_types.specs.declared.expr_type.ExprType.{ExprType}
use Rattle.kern_types.specs.declared.expr_type.ExprType.TheVariants as types
use Rattle.kern_types.specs.Steps.{OrFault}
use Rattle.lane_code.specs.declared.code.RawCode.{RawCode}
use Rattle.lane_code.specs.declared.instruction.Instr.{Instr}
use Rattle.lane_code.specs.declared.instruction.Lane.{Lane}
use Rattle.lane_code.specs.declared.instruction.Lane.TheVariants as lanes
use Rattle.lane_codegen.specs.declared.acts.Acts.{Acts}
use Rattle.lane_codegen.specs.declared.place.Place.{Place}
use Rattle.lane_codegen.specs.declared.place.Place.TheVariants.{Scaled, Condition}
use Rattle.lane_codegen.specs.declared.place.Registers.{Registers}
use Rattle.lane_codegen.specs.Acts.{alike}
use Rattle.pf_geom.specs.declared.axis.Axis.{Axis}
use Rattle.pf_geom.specs.declared.axis.Axis.TheVariants.{X, Y, Z}
use Rattle.pf_num.specs.declared.memory.OutOfMemory.{OutOfMemory}

abbrev pub nothing_written : RawCode
nothing_written = record { numbers = 0; masks = 1; slots = 0; steps = [] }

-- ---- an instruction more

abbrev pub instr : ℕ → ℕ → Lane → Instr
instr under out act = record { under = under; out = out; act = act }

-- a new number register
abbrev pub with_number : ℕ → Lane → RawCode → RawCode
with_number under act w = record {
  numbers = w.numbers + 1;
  masks = w.masks;
  slots = w.slots;
  steps = w.steps ++ instr under w.numbers act ∷ [];
}

-- a new mask register
abbrev pub with_mask : ℕ → Lane → RawCode → RawCode
with_mask under act w = record {
  numbers = w.numbers;
  masks = w.masks + 1;
  slots = w.slots;
  steps = w.steps ++ instr under w.masks act ∷ [];
}

-- a number register again
abbrev pub with_copy : ℕ → ℕ → ℕ → RawCode → RawCode
with_copy under out from w = record {
  numbers = w.numbers;
  masks = w.masks;
  slots = w.slots;
  steps = w.steps ++ instr under out (lanes.Copy from) ∷ [];
}

-- a component of the next slot
abbrev pub with_part : Axis → ℕ → ℕ → RawCode → RawCode
with_part axis from under w = record {
  numbers = w.numbers;
  masks = w.masks;
  slots = w.slots;
  steps = w.steps ++ instr under 0 (lanes.Give w.slots axis from) ∷ [];
}

-- the next slot is done
abbrev pub with_slot : RawCode → RawCode
with_slot w = record { numbers = w.numbers; masks = w.masks; slots = w.slots + 1; steps = w.steps }

-- ---- values

-- the new registers of a num or a vec, where so many are written
abbrev pub new_registers : Kind → ℕ → Registers
new_registers kinds.Num n = record { x = n; y = n; z = n }
new_registers kinds.Vec3 n = record { x = n; y = n + 1; z = n + 1 + 1 }

abbrev pub with_numbers : Kind → Acts → ℕ → RawCode → RawCode
with_numbers kinds.Num acts under w = with_number under acts.x w
with_numbers kinds.Vec3 acts under w = with_number under acts.z (with_number under acts.y (with_number under acts.x w))

abbrev pub with_copies : Kind → Registers → Registers → ℕ → RawCode → RawCode
with_copies kinds.Num to from under w = with_copy under to.x from.x w
with_copies kinds.Vec3 to from under w =
    with_copy under to.z from.z (with_copy under to.y from.y (with_copy under to.x from.x w))

-- the components of a place, given to the next slot
abbrev pub with_gift : Place → ℕ → RawCode → RawCode
with_gift (Scaled kinds.Num scale at) under w = with_slot (with_part X at.x under w)
with_gift (Scaled kinds.Vec3 scale at) under w =
    with_slot (with_part Z at.z under (with_part Y at.y under (with_part X at.x under w)))
with_gift (Condition mask) under w = with_slot w

-- the place of what was written, and the code with it
abbrev pub Made : Type 0
Made = Place × RawCode

-- a value of this type, whose numbers or whose mask these acts give
abbrev pub value_made : ExprType → Acts → ℕ → RawCode → Made
value_made (types.Scaled kind scale) acts under w =
    (Scaled kind scale (new_registers kind w.numbers), with_numbers kind acts under w)
value_made types.Condition acts under w = (Condition w.masks, with_mask under acts.x w)

-- what has no value: a number that nobody reads
abbrev pub nothing_made : ℕ → RawCode → Made
nothing_made under w = value_made (types.Scaled kinds.Num 0) (alike (lanes.Const (pos 0))) under w

abbrev pub typed_made : OrFault ExprType → Acts → ℕ → RawCode → Made
typed_made (Ok type) acts under w = value_made type acts under w
typed_made (Err fault) acts under w = nothing_made under w

-- what a call returned and the code that it left are these, unless memory ran out
abbrev pub Writes : Result Place OutOfMemory → RawCode → Made → Type 0
Writes result left made = IfOk result (λ place. (place ≡ made.0) × (left ≡ made.1))
