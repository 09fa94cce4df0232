-- The place of an expression has the expression's type.
use Rattle.std.proofs.Common.{◌≡◌, ℕ, List, Bool, true, false, cond, Option, Some, None, Ok, Err, pos, refl, sym, ap, ◌∙◌}
use Rattle.std.specs.Option.{option_map}
use Rattle.std.specs.Prelude.{nat_lt, ◌^◌}
use Rattle.std.proofs.lemmas.Bool.{lt-ltb}
use Rattle.lane_codegen.specs.Acts.{alike}
use Rattle.kern_tree.proofs.Layers.{number_layer, name_layer, part_layer, one_layer, two_layer, three_layer, to_layer}
use Rattle.kern_tree.specs.declared.expr.Expr.{Expr}
use Rattle.kern_tree.specs.declared.expr.Op1.{Op1}
use Rattle.kern_tree.specs.declared.expr.Op1.TheVariants as op1s
use Rattle.kern_tree.specs.declared.expr.Op2.{Op2}
use Rattle.kern_tree.specs.declared.expr.Op2.TheVariants as op2s
use Rattle.kern_tree.specs.declared.expr.Op3.{Op3}
use Rattle.kern_tree.specs.declared.expr.Op3.TheVariants as op3s
use Rattle.kern_tree.specs.declared.kernel.Decl.{Decl}
use Rattle.kern_tree.specs.declared.kernel.DeclKind.{DeclKind}
use Rattle.kern_tree.specs.declared.kernel.DeclKind.TheVariants as declared_as
use Rattle.kern_tree.specs.declared.kernel.Kind.TheVariants as kinds
use Rattle.kern_tree.specs.Limits as limits
use Rattle.kern_tree.specs.Limits.{IsLimited}
use Rattle.kern_types.proofs.Checks.{reached}
use Rattle.kern_types.specs.declared.expr_type.ExprType.{ExprType}
use Rattle.kern_types.specs.declared.expr_type.ExprType.TheVariants as types
use Rattle.kern_types.specs.declared.scope.Variable.{Variable}
use Rattle.kern_types.specs.Forms.{one_type, part_type, three_type, to_type, two_type}
use Rattle.kern_types.specs.NameLists.{is_among}
use Rattle.kern_types.specs.Names.{at_place, declaration, declared_type, earlier_assignment, form_typing, named_type, type_of, undeclared_type}
use Rattle.kern_types.specs.Scopes.{Scope}
use Rattle.kern_types.specs.Steps.{OrFault, ◌>>=◌}
use Rattle.lane_code.specs.declared.code.RawCode.{RawCode}
use Rattle.lane_codegen.specs.declared.acts.Acts.{Acts}
use Rattle.lane_codegen.specs.declared.place.Place.{Place}
use Rattle.lane_codegen.specs.declared.place.Place.TheVariants.{Scaled, Condition}
use Rattle.lane_codegen.specs.declared.variable.Assigned.{Assigned}
use Rattle.lane_codegen.specs.Expressions.{code_of, either_made, expr_maker, form_maker, one_made, part_made, right_made, three_made, to_made, two_made, with_right}
use Rattle.lane_codegen.specs.Names.{declared_made, entry, named_made}
use Rattle.lane_codegen.specs.Writing.{Made, nothing_made, typed_made, value_made, with_mask}
use Rattle.lane_code.specs.declared.instruction.Lane.TheVariants as lanes
use Rattle.pf_geom.specs.declared.axis.Axis.{Axis}

abbrev pub type_of_place : Place → ExprType
type_of_place (Scaled kind scale at) = types.Scaled kind scale
type_of_place (Condition mask) = types.Condition

abbrev pub type_of_variable : Option Variable → Option ExprType
type_of_variable v = option_map (λ v. types.Scaled v.kind v.scale) v

abbrev pub type_of_entry : Option Assigned → Option ExprType
type_of_entry a = option_map (λ a. types.Scaled a.kind a.scale) a

-- the names of the table are those assigned earlier in the text, with the kind and the scale of the earliest assignment
abbrev pub Tracks : List Assigned → List Variable → Type 0
Tracks table earlier = (name : List ℕ) → type_of_entry (entry table name) ≡ type_of_variable (earlier_assignment earlier name)

value_typed : (type : ExprType) (acts : Acts) (u : ℕ) (w : RawCode) → type_of_place (value_made type acts u w).0 ≡ type
value_typed (types.Scaled kind scale) acts u w = refl
value_typed types.Condition acts u w = refl

typed_typed : (answer : OrFault ExprType) (type : ExprType) (acts : Acts) (u : ℕ) (w : RawCode) → answer ≡ Ok type → type_of_place (typed_made answer acts u w).0 ≡ type
typed_typed (Ok t) type acts u w e = let same : t ≡ type = cc in value_typed t acts u w ∙ same
typed_typed (Err f) type acts u w e = absurd (let no : ⊥ = cc in no)

part_typed : (p : ℕ) (axis : Axis) (a : Place) (type : ExprType) (u : ℕ) (w : RawCode) → part_type p (type_of_place a) ≡ Ok type → type_of_place (part_made axis a u w).0 ≡ type
part_typed p axis (Scaled kinds.Vec3 s at) type u w e = cc
part_typed p axis (Scaled kinds.Num s at) type u w e = absurd (let no : ⊥ = cc in no)
part_typed p axis (Condition m) type u w e = absurd (let no : ⊥ = cc in no)

one_typed : (p : ℕ) (op : Op1) (a : Place) (type : ExprType) (u : ℕ) (w : RawCode) → one_type p op (type_of_place a) ≡ Ok type → type_of_place (one_made p op a u w).0 ≡ type
one_typed p op (Scaled kind s at) type u w e = typed_typed (one_type p op (types.Scaled kind s)) type _ u w e
one_typed p op1s.Not (Condition m) type u w e = cc
one_typed p op1s.Neg (Condition m) type u w e = absurd (let no : ⊥ = cc in no)
one_typed p op1s.Isqrt (Condition m) type u w e = absurd (let no : ⊥ = cc in no)
one_typed p op1s.Abs (Condition m) type u w e = absurd (let no : ⊥ = cc in no)

to_typed : (p to : ℕ) (a : Place) (type : ExprType) (u : ℕ) (w : RawCode) → to_type p to (type_of_place a) ≡ Ok type → type_of_place (to_made p to a u w).0 ≡ type
to_typed p to (Scaled kind s at) type u w e = typed_typed (to_type p to (types.Scaled kind s)) type _ u w e
to_typed p to (Condition m) type u w e = absurd (let no : ⊥ = cc in no)

abbrev is_both : Op2 → Bool
is_both op2s.And = true
is_both op2s.Or = true
is_both _ = false

two_typed : (p : ℕ) (op : Op2) (a b : Place) (type : ExprType) (u : ℕ) (w : RawCode) → is_both op ≡ false → two_type p op (type_of_place a) (type_of_place b) ≡ Ok type → type_of_place (two_made p op a b u w).0 ≡ type
two_typed p op2s.And a b type u w off e = absurd (let no : ⊥ = cc in no)
two_typed p op2s.Or a b type u w off e = absurd (let no : ⊥ = cc in no)
two_typed p op (Scaled k s a) (Scaled l t b) type u w off e = typed_typed (two_type p op (types.Scaled k s) (types.Scaled l t)) type _ u w e
two_typed p _ (Scaled kinds.Num s a) (Condition m) type u w off e = absurd (let no : ⊥ = cc in no)
two_typed p _ (Scaled kinds.Vec3 s a) (Condition m) type u w off e = absurd (let no : ⊥ = cc in no)
two_typed p _ (Condition m) b type u w off e = absurd (let no : ⊥ = cc in no)

three_typed : (p : ℕ) (op : Op3) (a b c : Place) (type : ExprType) (u : ℕ) (w : RawCode) → three_type p op (type_of_place a) (type_of_place b) (type_of_place c) ≡ Ok type → type_of_place (three_made p op a b c u w).0 ≡ type
three_typed p op (Scaled k s a) (Scaled l t b) (Scaled m v c) type u w e = typed_typed (three_type p op (types.Scaled k s) (types.Scaled l t) (types.Scaled m v)) type _ u w e
three_typed p op3s.Muldiv (Condition m) b c type u w e = absurd (let no : ⊥ = cc in no)
three_typed p op3s.Build (Condition m) b c type u w e = absurd (let no : ⊥ = cc in no)
three_typed p op3s.Muldiv (Scaled kinds.Num s a) (Condition m) c type u w e = absurd (let no : ⊥ = cc in no)
three_typed p op3s.Muldiv (Scaled kinds.Vec3 s a) (Condition m) c type u w e = absurd (let no : ⊥ = cc in no)
three_typed p op3s.Build (Scaled kinds.Num s a) (Condition m) c type u w e = absurd (let no : ⊥ = cc in no)
three_typed p op3s.Build (Scaled kinds.Vec3 s a) (Condition m) c type u w e = absurd (let no : ⊥ = cc in no)
three_typed p op3s.Muldiv (Scaled kinds.Num s a) (Scaled l t b) (Condition m) type u w e = absurd (let no : ⊥ = cc in no)
three_typed p op3s.Muldiv (Scaled kinds.Vec3 s a) (Scaled l t b) (Condition m) type u w e = absurd (let no : ⊥ = cc in no)
three_typed p op3s.Build (Scaled kinds.Num s a) (Scaled kinds.Num t b) (Condition m) type u w e = absurd (let no : ⊥ = cc in no)
three_typed p op3s.Build (Scaled kinds.Num s a) (Scaled kinds.Vec3 t b) (Condition m) type u w e = absurd (let no : ⊥ = cc in no)
three_typed p op3s.Build (Scaled kinds.Vec3 s a) (Scaled l t b) (Condition m) type u w e = absurd (let no : ⊥ = cc in no)

-- ---- names

declared_typed : (p : ℕ) (what : DeclKind) (type : ExprType) (u : ℕ) (w : RawCode) → declared_type p what ≡ Ok type → type_of_place (declared_made what u w).0 ≡ type
declared_typed p (declared_as.Epi kind scale field) type u w e = cc
declared_typed p (declared_as.Epj kind scale field) type u w e = cc
declared_typed p (declared_as.Param scale v) type u w e = cc
declared_typed p (declared_as.Force kind scale combine) type u w e = absurd (let no : ⊥ = cc in no)

entry_typed : (p : ℕ) (found : Option Assigned) (variable : Option Variable) (certain : Bool) (type : ExprType) (u : ℕ) (w : RawCode) → type_of_entry found ≡ type_of_variable variable → undeclared_type p variable certain ≡ Ok type → type_of_place (named_made None found u w).0 ≡ type
entry_typed p (Some a) (Some v) true type u w same e = cc
entry_typed p (Some a) (Some v) false type u w same e = absurd (let no : ⊥ = cc in no)
entry_typed p None (Some v) certain type u w same e = absurd (let no : ⊥ = cc in no)
entry_typed p found None certain type u w same e = absurd (let no : ⊥ = cc in no)

literal_typed : (m s : ℕ) (type : ExprType) (u : ℕ) (w : RawCode) (b : Bool) → b ≡ true → ◌≡◌ {A = OrFault ExprType} (Ok (types.Scaled kinds.Num s)) (Ok type) → type_of_place (cond b (value_made (types.Scaled kinds.Num s) (alike (lanes.Const (pos m))) u w) (nothing_made u w)).0 ≡ type
literal_typed m s type u w true e f = cc
literal_typed m s type u w false e f = absurd (let no : ⊥ = cc in no)

module _ (decls : List Decl) (scope : Scope) (table : List Assigned) (tracks : Tracks table scope.earlier) where
  named_typed : (p : ℕ) (name : List ℕ) (decl : Option Decl) (type : ExprType) (u : ℕ) (w : RawCode) → named_type p decl (undeclared_type p (earlier_assignment scope.earlier name) (is_among scope.certain name)) ≡ Ok type → type_of_place (named_made decl (entry table name) u w).0 ≡ type
  named_typed p name (Some decl) type u w e = declared_typed p decl.what type u w e
  named_typed p name None type u w e = entry_typed p (entry table name) (earlier_assignment scope.earlier name) (is_among scope.certain name) type u w (tracks name) e

  abbrev IsTypedCode : Expr → Type 0
  IsTypedCode e = (type : ExprType) → type_of decls scope e ≡ Ok type → (u : ℕ) (w : RawCode) → type_of_place (code_of decls table e u w).0 ≡ type

  right_typed : (p : ℕ) (op : Op2) (a : Place) (b : Expr) (tb type : ExprType) → type_of decls scope b ≡ Ok tb → IsTypedCode b → two_type p op (type_of_place a) tb ≡ Ok type → (u : ℕ) (w : RawCode) → type_of_place (right_made p op a (code_of decls table b) u w).0 ≡ type
  right_typed p op2s.And (Condition m) b tb type is h e u w = with_typed (code_of decls table b m w).0 tb e where
    with_typed : (place : Place) (tb : ExprType) → two_type p op2s.And types.Condition tb ≡ Ok type → type_of_place (with_right m place) ≡ type
    with_typed (Condition n) types.Condition e = cc
    with_typed (Scaled kind s at) types.Condition e = cc
    with_typed place (types.Scaled kind s) e = absurd (let no : ⊥ = cc in no)
  right_typed p op2s.And (Scaled kind s at) b tb type is h e u w = absurd (let no : ⊥ = cc in no)
  right_typed p op2s.Or (Condition m) b tb type is h e u w = either_typed (code_of decls table b w.masks (with_mask u (lanes.AndNot u m) w)) tb e where
    either_typed : (made : Made) (tb : ExprType) → two_type p op2s.Or types.Condition tb ≡ Ok type → type_of_place (either_made m made.0 u made.1).0 ≡ type
    either_typed made types.Condition e = by_place made.0 where
      by_place : (place : Place) → type_of_place (either_made m place u made.1).0 ≡ type
      by_place (Condition n) = cc
      by_place (Scaled kind s at) = cc
    either_typed made (types.Scaled kind s) e = absurd (let no : ⊥ = cc in no)
  right_typed p op2s.Or (Scaled kind s at) b tb type is h e u w = absurd (let no : ⊥ = cc in no)
  right_typed p op a b tb type is h e u w =
      two_typed p op a (code_of decls table b u w).0 type u (code_of decls table b u w).1 refl (ap (two_type p op (type_of_place a)) (h tb is u w) ∙ e)

  abbrev placed : Expr → ℕ → RawCode → ExprType
  placed e u w = type_of_place (code_of decls table e u w).0

  pub place_typed : {e : Expr} → IsLimited e → IsTypedCode e
  place_typed (limits.literal {place = p} {mantissa = m} {scale = s} small bound) type is u w =
      ap (λ f. type_of_place (f p u w).0) (number_layer (form_maker decls table) expr_maker m s) ∙ literal_typed m s type u w (nat_lt m (2 ^ 63)) (lt-ltb m (2 ^ 63) small) (sym (ap (λ f. f p) (number_layer (form_typing decls scope) at_place m s)) ∙ is)
  place_typed (limits.name {place = p} {called = n}) type is u w =
      ap (λ f. type_of_place (f p u w).0) (name_layer (form_maker decls table) expr_maker n) ∙ named_typed p n (declaration decls n) type u w (sym (ap (λ f. f p) (name_layer (form_typing decls scope) at_place n)) ∙ is)
  place_typed (limits.part {place = p} {a = a} {axis = axis} h) type is u w =
      let r = reached (type_of decls scope a) (part_type p) type (sym (ap (λ f. f p) (part_layer (form_typing decls scope) at_place a axis)) ∙ is) in
      ap (λ f. type_of_place (f p u w).0) (part_layer (form_maker decls table) expr_maker a axis)
      ∙ part_typed p axis (code_of decls table a u w).0 type u (code_of decls table a u w).1 (ap (part_type p) (place_typed h r.value r.is u w) ∙ r.then_is)
  place_typed (limits.one {place = p} {op = op} {a = a} h) type is u w =
      let r = reached (type_of decls scope a) (one_type p op) type (sym (ap (λ f. f p) (one_layer (form_typing decls scope) at_place op a)) ∙ is) in
      ap (λ f. type_of_place (f p u w).0) (one_layer (form_maker decls table) expr_maker op a)
      ∙ one_typed p op (code_of decls table a u w).0 type u (code_of decls table a u w).1 (ap (one_type p op) (place_typed h r.value r.is u w) ∙ r.then_is)
  place_typed (limits.two {place = p} {op = op} {a = a} {b = b} h g) type is u w =
      let r = reached (type_of decls scope a) (λ x. type_of decls scope b >>= (λ y. two_type p op x y)) type (sym (ap (λ f. f p) (two_layer (form_typing decls scope) at_place op a b)) ∙ is) in
      let q = reached (type_of decls scope b) (λ y. two_type p op r.value y) type r.then_is in
      ap (λ f. type_of_place (f p u w).0) (two_layer (form_maker decls table) expr_maker op a b)
      ∙ right_typed p op (code_of decls table a u w).0 b q.value type q.is (λ t e v x. place_typed g t e v x) (ap (λ t. two_type p op t q.value) (place_typed h r.value r.is u w) ∙ q.then_is) u (code_of decls table a u w).1
  place_typed (limits.three {place = p} {op = op} {a = a} {b = b} {c = c} h g f3) type is u w =
      let r = reached (type_of decls scope a) (λ x. type_of decls scope b >>= (λ y. type_of decls scope c >>= (λ z. three_type p op x y z))) type (sym (ap (λ f. f p) (three_layer (form_typing decls scope) at_place op a b c)) ∙ is) in
      let q = reached (type_of decls scope b) (λ y. type_of decls scope c >>= (λ z. three_type p op r.value y z)) type r.then_is in
      let o = reached (type_of decls scope c) (λ z. three_type p op r.value q.value z) type q.then_is in
      let one : Made = code_of decls table a u w in
      let two : Made = code_of decls table b u one.1 in
      let three : Made = code_of decls table c u two.1 in
      ap (λ f. type_of_place (f p u w).0) (three_layer (form_maker decls table) expr_maker op a b c)
      ∙ three_typed p op one.0 two.0 three.0 type u three.1
      (ap (λ t. three_type p op t (type_of_place two.0) (type_of_place three.0)) (place_typed h r.value r.is u w)
      ∙ ap (λ t. three_type p op r.value t (type_of_place three.0)) (place_typed g q.value q.is u one.1)
      ∙ ap (λ t. three_type p op r.value q.value t) (place_typed f3 o.value o.is u two.1) ∙ o.then_is)
  place_typed (limits.to {place = p} {scale = k} {a = a} h) type is u w =
      let r = reached (type_of decls scope a) (to_type p k) type (sym (ap (λ f. f p) (to_layer (form_typing decls scope) at_place k a)) ∙ is) in
      ap (λ f. type_of_place (f p u w).0) (to_layer (form_maker decls table) expr_maker k a)
      ∙ to_typed p k (code_of decls table a u w).0 type u (code_of decls table a u w).1 (ap (to_type p k) (place_typed h r.value r.is u w) ∙ r.then_is)
