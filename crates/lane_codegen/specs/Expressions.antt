-- What is written for an expression, in the lanes of a mask.
use Rattle.std.specs.Prelude.{ℕ, pos, nat_lt, ◌^◌, if◌then◌else◌, List}
use Rattle.kern_tree.specs.declared.expr.Expr.{Expr}
use Rattle.kern_tree.specs.declared.expr.Form.TheFolds.{fold-Form}
use Rattle.kern_tree.specs.declared.expr.Form.TheOpen.{Form-F, Expr-F}
use Rattle.kern_tree.specs.declared.expr.Form.TheOpen as forms
use Rattle.kern_tree.specs.declared.expr.Op1.{Op1}
use Rattle.kern_tree.specs.declared.expr.Op1.TheVariants as op1s
use Rattle.kern_tree.specs.declared.expr.Op2.{Op2}
use Rattle.kern_tree.specs.declared.expr.Op2.TheVariants as op2s
use Rattle.kern_tree.specs.declared.expr.Op3.{Op3}
use Rattle.kern_tree.specs.declared.kernel.Decl.{Decl}
use Rattle.kern_tree.specs.declared.kernel.Kind.TheVariants as kinds
use Rattle.kern_types.specs.declared.expr_type.ExprType.TheVariants as types
use Rattle.kern_types.specs.Forms.{one_type, two_type, three_type, to_type}
use Rattle.lane_code.specs.declared.code.RawCode.{RawCode}
use Rattle.lane_code.specs.declared.instruction.Lane.TheVariants as lanes
use Rattle.lane_codegen.specs.declared.place.Place.{Place}
use Rattle.lane_codegen.specs.declared.place.Place.TheVariants.{Scaled, Condition}
use Rattle.lane_codegen.specs.declared.variable.Assigned.{Assigned}
use Rattle.lane_codegen.specs.Acts.{alike, along, same_registers, one_acts, two_acts, three_acts, to_acts}
use Rattle.lane_codegen.specs.Names.{name_made}
use Rattle.lane_codegen.specs.Writing.{Made, value_made, typed_made, nothing_made, with_mask}
use Rattle.pf_geom.specs.declared.axis.Axis.{Axis}

-- under which mask, and after which code
abbrev pub Maker : Type 0
Maker = ℕ → RawCode → Made

-- what is written after this
abbrev pub after : Made → (Place → RawCode → Made) → Made
after made next = next made.0 made.1

-- a literal that is no i64 is in no kernel that was read
abbrev pub literal_made : ℕ → ℕ → Maker
literal_made mantissa scale under w =
    if nat_lt mantissa (2 ^ 63) then value_made (types.Scaled kinds.Num scale) (alike (lanes.Const (pos mantissa))) under w
    else nothing_made under w

-- a component stands in one of the registers of the whole
abbrev pub part_made : Axis → Place → Maker
part_made axis (Scaled kinds.Vec3 scale at) under w = (Scaled kinds.Num scale (same_registers (along axis at)), w)
part_made axis _ under w = nothing_made under w

-- !a: the lanes that aren't in a
abbrev pub not_made : Op1 → ℕ → Maker
not_made op1s.Not mask under w = value_made types.Condition (alike (lanes.AndNot under mask)) under w
not_made _ mask under w = nothing_made under w

abbrev pub one_made : ℕ → Op1 → Place → Maker
one_made p op (Scaled kind scale at) under w = typed_made (one_type p op (types.Scaled kind scale)) (one_acts op at) under w
one_made p op (Condition mask) under w = not_made op mask under w

abbrev pub two_made : ℕ → Op2 → Place → Place → Maker
two_made p op (Scaled k s a) (Scaled l t b) under w =
    typed_made (two_type p op (types.Scaled k s) (types.Scaled l t)) (two_acts op k a l b) under w
two_made p op _ _ under w = nothing_made under w

abbrev pub three_made : ℕ → Op3 → Place → Place → Place → Maker
three_made p op (Scaled k s a) (Scaled l t b) (Scaled m u c) under w =
    typed_made (three_type p op (types.Scaled k s) (types.Scaled l t) (types.Scaled m u)) (three_acts op a b c) under w
three_made p op _ _ _ under w = nothing_made under w

abbrev pub to_made : ℕ → ℕ → Place → Maker
to_made p k (Scaled kind scale at) under w = typed_made (to_type p k (types.Scaled kind scale)) (to_acts k scale at) under w
to_made p k (Condition mask) under w = nothing_made under w

-- a && b: b in the lanes of a alone, and its mask is the answer
abbrev pub with_right : ℕ → Place → Place
with_right mask (Condition both) = Condition both
with_right mask (Scaled kind scale at) = Condition mask

abbrev pub and_made : Place → Maker → Maker
and_made (Condition mask) right under w = after (right mask w) (λ b w. (with_right mask b, w))
and_made (Scaled kind scale at) right under w = nothing_made under w

-- a || b: b in the lanes that aren't in a
abbrev pub either_made : ℕ → Place → Maker
either_made mask (Condition other) under w = value_made types.Condition (alike (lanes.Or mask other)) under w
either_made mask (Scaled kind scale at) under w = (Condition mask, w)

abbrev pub or_made : Place → Maker → Maker
or_made (Condition mask) right under w =
    after (right w.masks (with_mask under (lanes.AndNot under mask) w)) (λ b w. either_made mask b under w)
or_made (Scaled kind scale at) right under w = nothing_made under w

-- after the left operand; the node's token stands at the place p
abbrev pub right_made : ℕ → Op2 → Place → Maker → Maker
right_made p op2s.And left right under w = and_made left right under w
right_made p op2s.Or left right under w = or_made left right under w
right_made p op left right under w = after (right under w) (λ b w. two_made p op left b under w)

abbrev pub expr_maker : Expr-F (ℕ → Maker) Maker → Maker
expr_maker expr = expr.form expr.place

module _ (decls : List Decl) (table : List Assigned) where
  abbrev pub form_maker : Form-F (ℕ → Maker) Maker → ℕ → Maker
  form_maker (forms.Number mantissa scale) p = literal_made mantissa scale
  form_maker (forms.Name name) p = name_made decls table name
  form_maker (forms.Part whole axis) p = λ under w. after (whole under w) (λ a w. part_made axis a under w)
  form_maker (forms.One op operand) p = λ under w. after (operand under w) (λ a w. one_made p op a under w)
  form_maker (forms.Two op left right) p = λ under w. after (left under w) (λ a w. right_made p op a right under w)
  form_maker (forms.Three op first second third) p = λ under w.
      after (first under w) (λ a w. after (second under w) (λ b w. after (third under w) (λ c w.
      three_made p op a b c under w)))
  form_maker (forms.To k operand) p = λ under w. after (operand under w) (λ a w. to_made p k a under w)

  -- the code of an expression, after that of the text before
  abbrev pub code_of : Expr → Maker
  code_of expr = fold-Form (ℕ → Maker) Maker form_maker expr_maker expr.form expr.place
