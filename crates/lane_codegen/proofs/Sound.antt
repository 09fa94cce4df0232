-- The code of an expression is written in order, and its place was written.
use Rattle.std.proofs.Common.{◌≡◌, ℕ, ◌+◌, ◌-◌, ◌<◌, ◌≤◌, inl, inr, List, [], ◌∷◌, Bool, true, false, cond, ◌&&◌, ◌||◌, Option, Some, None, ℤ, pos, ◌^◌, refl, subst, arith}
use Rattle.std.specs.List.{AllByRecursion}
use Rattle.std.specs.Prelude.{not, nat_le, nat_lt, ◌%◌, ◌==◌, find}
use Rattle.std.specs.Str.{bytes_eq}
use Rattle.std.proofs.lemmas.Bool.Decides.{nat_tests}
use Rattle.kern_token.specs.declared.limits.TheConstants.{MOST_SCALE}
use Rattle.kern_tree.specs.declared.expr.Op1.{Op1}
use Rattle.kern_tree.specs.declared.expr.Op1.TheVariants as op1s
use Rattle.kern_tree.specs.declared.expr.Op2.{Op2}
use Rattle.kern_tree.specs.declared.expr.Op2.TheVariants as op2s
use Rattle.kern_tree.specs.declared.expr.Op3.{Op3}
use Rattle.kern_tree.specs.declared.expr.Op3.TheVariants as op3s
use Rattle.kern_tree.specs.declared.expr.Expr.{Expr}
use Rattle.kern_tree.specs.declared.kernel.Decl.{Decl}
use Rattle.kern_tree.specs.declared.kernel.DeclKind.{DeclKind}
use Rattle.kern_tree.specs.declared.kernel.DeclKind.TheVariants as declared_as
use Rattle.kern_tree.specs.declared.kernel.Kind.{Kind}
use Rattle.kern_tree.specs.declared.kernel.Kind.TheVariants as kinds
use Rattle.kern_types.specs.declared.expr_type.ExprType.TheVariants as types
use Rattle.kern_types.specs.Forms.{scaled_if, one_type, two_type, three_type}
use Rattle.lane_code.specs.declared.code.RawCode.{RawCode}
use Rattle.lane_code.specs.declared.instruction.Lane.{Lane}
use Rattle.lane_code.specs.declared.instruction.Lane.TheVariants as lanes
use Rattle.lane_code.specs.declared.instruction.Relation.{Relation}
use Rattle.lane_code.specs.Validity.{numbers_read}
use Rattle.lane_codegen.specs.declared.acts.Acts.{Acts}
use Rattle.lane_codegen.specs.declared.place.Place.{Place}
use Rattle.lane_codegen.specs.declared.place.Place.TheVariants.{Scaled, Condition}
use Rattle.lane_codegen.specs.declared.place.Registers.{Registers}
use Rattle.lane_codegen.specs.Acts.{alike, along, both_acts, spread, one_acts, two_act, two_acts, three_acts, to_act}
use Rattle.lane_codegen.specs.declared.variable.Assigned.{Assigned}
use Rattle.lane_codegen.specs.Expressions.{code_of, either_made, literal_made, one_made, part_made, right_made, three_made, to_made, two_made, with_right}
use Rattle.lane_codegen.specs.Names.{declared_made, entry, item_loads, named_made, particle_loads}
use Rattle.kern_meaning.specs.Names.{field_named}
use Rattle.pf_model.specs.declared.field.Field.{Field}
use Rattle.pf_model.specs.declared.field.Field.TheVariants as fields
use Rattle.lane_codegen.specs.Writing.{Made, new_registers, nothing_made, typed_made, value_made, with_mask, with_number, with_numbers}
use Rattle.pf_geom.specs.declared.axis.Axis.{Axis}
use Rattle.pf_geom.specs.declared.axis.Axis.TheVariants.{X, Y, Z}
use Rattle.lane_codegen.proofs.Tidy.{AreBelow, IsPlain, Low, Tidy, Grows, grows, on}
use Rattle.lane_codegen.proofs.Tidy as tidy

-- registers below this one
pub record AreThere (n : ℕ) (at : Registers) : Type 0 where
  pub x : at.x < n
  pub y : at.y < n
  pub z : at.z < n

-- a place that was written; a mask since so many were there
abbrev pub Within : ℕ → RawCode → Place → Type 0
Within base w (Scaled kind scale at) = AreThere w.numbers at
Within base w (Condition mask) = (base ≤ mask) × (mask < w.masks)

pub record Sound (u : ℕ) (s : RawCode) (made : Made) : Type 0 where
  pub tidy : Tidy true u s made.1
  pub within : Within s.masks made.1 made.0

pub record ArePlain (n : ℕ) (acts : Acts) : Type 0 where
  pub x : IsPlain n acts.x
  pub y : IsPlain n acts.y
  pub z : IsPlain n acts.z

more_below : (n m : ℕ) → n ≤ m → (rs : List ℕ) → AreBelow n rs → AreBelow m rs
more_below n m le [] h = tt
more_below n m le (r ∷ rs) h = (let h0 = h.0 in omega (arith, le, h0), more_below n m le rs h.1)

pub more_plain : (n m : ℕ) → n ≤ m → (act : Lane) → IsPlain n act → IsPlain m act
more_plain n m le act p = record { makes = p.makes; there = p.there; little = p.little; reads = more_below n m le (numbers_read act) p.reads }

pub still_there : (n m : ℕ) (at : Registers) → n ≤ m → AreThere n at → AreThere m at
still_there n m at le h = let a = h.x in let b = h.y in let c = h.z in record { x = omega (arith, le, a); y = omega (arith, le, b); z = omega (arith, le, c) }

pub still_within : (base : ℕ) (w x : RawCode) → Grows w x → (place : Place) → Within base w place → Within base x place
still_within base w x g (Scaled kind scale at) h = still_there w.numbers x.numbers at g.numbers h
still_within base w x g (Condition mask) h = let m = g.masks in (h.0, let h1 = h.1 in omega (arith, h1, m))

pub wider : (base lower : ℕ) (w : RawCode) → lower ≤ base → (place : Place) → Within base w place → Within lower w place
wider base lower w le (Scaled kind scale at) h = h
wider base lower w le (Condition mask) h = (let h0 = h.0 in omega (arith, h0, le), h.1)

-- code under a mask of its own
pub lifted : (u v : ℕ) (s w : RawCode) (made : Made) → Tidy true u s w → Low u s.masks v → Sound v w made → Sound u s made
lifted u v s w made t low h = record { tidy = on v t low h.tidy; within = wider w.masks s.masks made.1 (grows t).masks made.0 h.within }

-- ---- values, after code w that was written since s

module _ (u : ℕ) (s w : RawCode) (t : Tidy true u s w) (there : u < w.masks) where
  pub numbers_tidy : (kind : Kind) (acts : Acts) → ArePlain w.numbers acts → Tidy true u s (with_numbers kind acts u w)
  numbers_tidy kinds.Num acts p = tidy.number w u acts.x t (inl refl) there p.x
  numbers_tidy kinds.Vec3 acts p =
      let one : RawCode = with_number u acts.x w in
      let two : RawCode = with_number u acts.y one in
      tidy.number two u acts.z (tidy.number one u acts.y (tidy.number w u acts.x t (inl refl) there p.x) (inl refl) there (more_plain w.numbers one.numbers (omega arith) acts.y p.y)) (inl refl) there (more_plain w.numbers two.numbers (omega arith) acts.z p.z)

  pub new_there : (kind : Kind) (acts : Acts) → AreThere (with_numbers kind acts u w).numbers (new_registers kind w.numbers)
  new_there kinds.Num acts = record { x = omega arith; y = omega arith; z = omega arith }
  new_there kinds.Vec3 acts = record { x = omega arith; y = omega arith; z = omega arith }

  pub value_sound : (kind : Kind) (scale : ℕ) (acts : Acts) → ArePlain w.numbers acts → Sound u s (value_made (types.Scaled kind scale) acts u w)
  value_sound kind scale acts p = record { tidy = numbers_tidy kind acts p; within = new_there kind acts }

  const_plain : ArePlain w.numbers (alike (lanes.Const (pos 0)))
  const_plain = let one : IsPlain w.numbers (lanes.Const (pos 0)) = record { makes = refl; there = refl; little = refl; reads = tt } in record { x = one; y = one; z = one }

  pub nothing_sound : Sound u s (nothing_made u w)
  nothing_sound = value_sound kinds.Num 0 (alike (lanes.Const (pos 0))) const_plain

  pub scaled_sound : (p : ℕ) (test : Bool) (kind : Kind) (scale : ℕ) (acts : Acts) → ArePlain w.numbers acts → Sound u s (typed_made (scaled_if p test (types.Scaled kind scale)) acts u w)
  scaled_sound p true kind scale acts h = value_sound kind scale acts h
  scaled_sound p false kind scale acts h = nothing_sound

  pub compared_sound : (p : ℕ) (test : Bool) (relation : Relation) (a b : ℕ) (y z : Lane) → a < w.numbers → b < w.numbers
      → Sound u s (typed_made (scaled_if p test types.Condition) (record { x = lanes.Compare relation a b; y = y; z = z }) u w)
  compared_sound p true relation a b y z ha hb = record { tidy = tidy.compare w u relation a b t (inl refl) there ha hb; within = (let g = (grows t).masks in omega (arith, g), omega arith) }
  compared_sound p false relation a b y z ha hb = nothing_sound

  pub not_sound : (mask : ℕ) → mask < w.masks → Sound u s (value_made types.Condition (alike (lanes.AndNot u mask)) u w)
  not_sound mask h = record { tidy = tidy.and_not w u u mask t (inl refl) there h; within = (let g = (grows t).masks in omega (arith, g), omega arith) }

  -- ---- operators

  one_sound : (p : ℕ) (op : Op1) (kind : Kind) (scale : ℕ) (at : Registers) → AreThere w.numbers at → Sound u s (typed_made (one_type p op (types.Scaled kind scale)) (one_acts op at) u w)
  one_sound p op1s.Neg kind scale at h = value_sound kind scale (one_acts op1s.Neg at) (record { x = record { makes = refl; there = refl; little = refl; reads = (h.x, tt) }; y = record { makes = refl; there = refl; little = refl; reads = (h.y, tt) }; z = record { makes = refl; there = refl; little = refl; reads = (h.z, tt) } })
  one_sound p op1s.Not kind scale at h = nothing_sound
  one_sound p op1s.Isqrt kinds.Num scale at h = scaled_sound p (scale % 2 == 0) _ _ (one_acts op1s.Isqrt at) (record { x = record { makes = refl; there = refl; little = refl; reads = (h.x, tt) }; y = record { makes = refl; there = refl; little = refl; reads = (h.y, tt) }; z = record { makes = refl; there = refl; little = refl; reads = (h.z, tt) } })
  one_sound p op1s.Isqrt kinds.Vec3 scale at h = nothing_sound
  one_sound p op1s.Abs kinds.Num scale at h = value_sound kinds.Num scale (one_acts op1s.Abs at) (record { x = record { makes = refl; there = refl; little = refl; reads = (h.x, tt) }; y = record { makes = refl; there = refl; little = refl; reads = (h.y, tt) }; z = record { makes = refl; there = refl; little = refl; reads = (h.z, tt) } })
  one_sound p op1s.Abs kinds.Vec3 scale at h = nothing_sound

  pub one_made_sound : (p : ℕ) (op : Op1) (place : Place) (base : ℕ) → Within base w place → Sound u s (one_made p op place u w)
  one_made_sound p op (Scaled kind scale at) base h = one_sound p op kind scale at h
  one_made_sound p op1s.Not (Condition mask) base h = not_sound mask h.1
  one_made_sound p op1s.Neg (Condition mask) base h = nothing_sound
  one_made_sound p op1s.Isqrt (Condition mask) base h = nothing_sound
  one_made_sound p op1s.Abs (Condition mask) base h = nothing_sound

  spread_there : (kind : Kind) (a : Registers) → AreThere w.numbers a → AreThere w.numbers (spread kind a)
  spread_there kinds.Num a h = record { x = h.x; y = h.x; z = h.x }
  spread_there kinds.Vec3 a h = h

  module _ (p : ℕ) (a b : Registers) (ha : AreThere w.numbers a) (hb : AreThere w.numbers b) where
    pub plain_two : (k l : Kind) (op : Op2) → ((m n : ℕ) → m < w.numbers → n < w.numbers → IsPlain w.numbers (two_act op m n)) → ArePlain w.numbers (both_acts op (spread k a) (spread l b))
    plain_two k l op h =
        let c = spread_there k a ha in
        let d = spread_there l b hb in
        record { x = h _ _ c.x d.x; y = h _ _ c.y d.y; z = h _ _ c.z d.z }

    pub dot_plain : ArePlain w.numbers (alike (lanes.Dot a.x a.y a.z b.x b.y b.z))
    dot_plain =
        let one : IsPlain w.numbers (lanes.Dot a.x a.y a.z b.x b.y b.z) = record { makes = refl; there = refl; little = refl; reads = (ha.x, (ha.y, (ha.z, (hb.x, (hb.y, (hb.z, tt)))))) } in
        record { x = one; y = one; z = one }

    two_sound : (op : Op2) (k : Kind) (c : ℕ) (l : Kind) (d : ℕ) → Sound u s (typed_made (two_type p op (types.Scaled k c) (types.Scaled l d)) (two_acts op k a l b) u w)
    two_sound op2s.Add kinds.Num c kinds.Num d = scaled_sound p (c == d) _ _ _ (plain_two kinds.Num kinds.Num op2s.Add (λ m n h k. record { makes = refl; there = refl; little = refl; reads = (h, (k, tt)) }))
    two_sound op2s.Add kinds.Vec3 c kinds.Vec3 d = scaled_sound p (c == d) _ _ _ (plain_two kinds.Vec3 kinds.Vec3 op2s.Add (λ m n h k. record { makes = refl; there = refl; little = refl; reads = (h, (k, tt)) }))
    two_sound op2s.Sub kinds.Num c kinds.Num d = scaled_sound p (c == d) _ _ _ (plain_two kinds.Num kinds.Num op2s.Sub (λ m n h k. record { makes = refl; there = refl; little = refl; reads = (h, (k, tt)) }))
    two_sound op2s.Sub kinds.Vec3 c kinds.Vec3 d = scaled_sound p (c == d) _ _ _ (plain_two kinds.Vec3 kinds.Vec3 op2s.Sub (λ m n h k. record { makes = refl; there = refl; little = refl; reads = (h, (k, tt)) }))
    two_sound op2s.Mul kinds.Num c kinds.Num d = scaled_sound p (nat_le (c + d) MOST_SCALE) _ _ _ (plain_two kinds.Num kinds.Num op2s.Mul (λ m n h k. record { makes = refl; there = refl; little = refl; reads = (h, (k, tt)) }))
    two_sound op2s.Mul kinds.Num c kinds.Vec3 d = scaled_sound p (nat_le (c + d) MOST_SCALE) _ _ _ (plain_two kinds.Num kinds.Vec3 op2s.Mul (λ m n h k. record { makes = refl; there = refl; little = refl; reads = (h, (k, tt)) }))
    two_sound op2s.Mul kinds.Vec3 c kinds.Num d = scaled_sound p (nat_le (c + d) MOST_SCALE) _ _ _ (plain_two kinds.Vec3 kinds.Num op2s.Mul (λ m n h k. record { makes = refl; there = refl; little = refl; reads = (h, (k, tt)) }))
    two_sound op2s.Mul kinds.Vec3 c kinds.Vec3 d = scaled_sound p (nat_le (c + d) MOST_SCALE) _ _ _ dot_plain
    two_sound op2s.Div kinds.Num c kinds.Num d = scaled_sound p (nat_le d c) _ _ _ (plain_two kinds.Num kinds.Num op2s.Div (λ m n h k. record { makes = refl; there = refl; little = refl; reads = (h, (k, tt)) }))
    two_sound op2s.Div kinds.Vec3 c kinds.Num d = scaled_sound p (nat_le d c) _ _ _ (plain_two kinds.Vec3 kinds.Num op2s.Div (λ m n h k. record { makes = refl; there = refl; little = refl; reads = (h, (k, tt)) }))
    two_sound op2s.Lt kinds.Num c kinds.Num d = compared_sound p (c == d) _ _ _ _ _ ha.x hb.x
    two_sound op2s.Le kinds.Num c kinds.Num d = compared_sound p (c == d) _ _ _ _ _ ha.x hb.x
    two_sound op2s.Gt kinds.Num c kinds.Num d = compared_sound p (c == d) _ _ _ _ _ ha.x hb.x
    two_sound op2s.Ge kinds.Num c kinds.Num d = compared_sound p (c == d) _ _ _ _ _ ha.x hb.x
    two_sound op2s.Eq kinds.Num c kinds.Num d = compared_sound p (c == d) _ _ _ _ _ ha.x hb.x
    two_sound op2s.Ne kinds.Num c kinds.Num d = compared_sound p (c == d) _ _ _ _ _ ha.x hb.x
    two_sound op2s.Least kinds.Num c kinds.Num d = scaled_sound p (c == d) _ _ _ (plain_two kinds.Num kinds.Num op2s.Least (λ m n h k. record { makes = refl; there = refl; little = refl; reads = (h, (k, tt)) }))
    two_sound op2s.Most kinds.Num c kinds.Num d = scaled_sound p (c == d) _ _ _ (plain_two kinds.Num kinds.Num op2s.Most (λ m n h k. record { makes = refl; there = refl; little = refl; reads = (h, (k, tt)) }))
    two_sound _ _ c _ d = nothing_sound

  pub two_made_sound : (p : ℕ) (op : Op2) (a b : Place) (base : ℕ) → Within base w a → Within base w b → Sound u s (two_made p op a b u w)
  two_made_sound p op (Scaled k c a) (Scaled l d b) base ha hb = two_sound p a b ha hb op k c l d
  two_made_sound p op (Scaled k c a) (Condition n) base ha hb = nothing_sound
  two_made_sound p op (Condition m) b base ha hb = nothing_sound

  module _ (p : ℕ) (a b c : Registers) (ha : AreThere w.numbers a) (hb : AreThere w.numbers b) (hc : AreThere w.numbers c) where
    pub muldiv_plain : ArePlain w.numbers (three_acts op3s.Muldiv a b c)
    muldiv_plain = record {
      x = record { makes = refl; there = refl; little = refl; reads = (ha.x, (hb.x, (hc.x, tt))) };
      y = record { makes = refl; there = refl; little = refl; reads = (ha.x, (hb.y, (hc.x, tt))) };
      z = record { makes = refl; there = refl; little = refl; reads = (ha.x, (hb.z, (hc.x, tt))) };
    }

    pub build_plain : ArePlain w.numbers (three_acts op3s.Build a b c)
    build_plain = record {
      x = record { makes = refl; there = refl; little = refl; reads = (ha.x, tt) };
      y = record { makes = refl; there = refl; little = refl; reads = (hb.x, tt) };
      z = record { makes = refl; there = refl; little = refl; reads = (hc.x, tt) };
    }

    three_sound : (op : Op3) (k : Kind) (d : ℕ) (l : Kind) (e : ℕ) (m : Kind) (f : ℕ) → Sound u s (typed_made (three_type p op (types.Scaled k d) (types.Scaled l e) (types.Scaled m f)) (three_acts op a b c) u w)
    three_sound op3s.Muldiv kinds.Num d l e kinds.Num f = scaled_sound p (nat_le f (d + e) && nat_le (d + e) (f + MOST_SCALE)) _ _ _ muldiv_plain
    three_sound op3s.Build kinds.Num d kinds.Num e kinds.Num f = scaled_sound p (d == e && e == f) _ _ _ build_plain
    three_sound _ _ d _ e _ f = nothing_sound

  pub three_made_sound : (p : ℕ) (op : Op3) (a b c : Place) (base : ℕ) → Within base w a → Within base w b → Within base w c → Sound u s (three_made p op a b c u w)
  three_made_sound p op (Scaled k d a) (Scaled l e b) (Scaled m f c) base ha hb hc = three_sound p a b c ha hb hc op k d l e m f
  three_made_sound p op (Condition x) b c base ha hb hc = nothing_sound
  three_made_sound p op (Scaled k d a) (Condition x) c base ha hb hc = nothing_sound
  three_made_sound p op (Scaled k d a) (Scaled l e b) (Condition x) base ha hb hc = nothing_sound

  up_little : (to scale : ℕ) → nat_le to 62 ≡ true → nat_le (to - scale) 62 ≡ true
  up_little to scale e = grind (arith, nat_tests)

  pub to_plain : (to scale a : ℕ) → a < w.numbers → IsPlain w.numbers (to_act to scale a)
  to_plain to scale a h = by_tests (nat_le to 62) (nat_le scale 62) (nat_le scale to) refl refl where
    by_tests : (x y z : Bool) → nat_le to 62 ≡ x → nat_le scale 62 ≡ y → IsPlain w.numbers (cond (not x || not y) (lanes.Const (pos 0)) (cond z (lanes.Up a (to - scale)) (lanes.Down a (scale - to))))
    by_tests true true true e f = record { makes = refl; there = refl; little = up_little to scale e; reads = (h, tt) }
    by_tests true true false e f = record { makes = refl; there = refl; little = up_little scale to f; reads = (h, tt) }
    by_tests true false z e f = record { makes = refl; there = refl; little = refl; reads = tt }
    by_tests false y z e f = record { makes = refl; there = refl; little = refl; reads = tt }

  pub to_made_sound : (p to : ℕ) (place : Place) (base : ℕ) → Within base w place → Sound u s (to_made p to place u w)
  to_made_sound p to (Scaled kind scale at) base h = scaled_sound p (nat_le to MOST_SCALE) _ _ _ (record { x = to_plain to scale at.x h.x; y = to_plain to scale at.y h.y; z = to_plain to scale at.z h.z })
  to_made_sound p to (Condition mask) base h = nothing_sound

  same_there : (axis : Axis) (at : Registers) → AreThere w.numbers at → along axis at < w.numbers
  same_there X at h = h.x
  same_there Y at h = h.y
  same_there Z at h = h.z

  pub part_made_sound : (axis : Axis) (place : Place) (base : ℕ) → Within base w place → Sound u s (part_made axis place u w)
  part_made_sound axis (Scaled kinds.Vec3 scale at) base h = record { tidy = t; within = record { x = same_there axis at h; y = same_there axis at h; z = same_there axis at h } }
  part_made_sound axis (Scaled kinds.Num scale at) base h = nothing_sound
  part_made_sound axis (Condition mask) base h = nothing_sound

-- ---- all expressions

pub constant_plain : (n : ℕ) (v : ℤ) → ArePlain n (alike (lanes.Const v))
constant_plain n v = let one : IsPlain n (lanes.Const v) = record { makes = refl; there = refl; little = refl; reads = tt } in record { x = one; y = one; z = one }

pub particle_plain : (n : ℕ) (field : Option Field) → ArePlain n (particle_loads field)
particle_plain n None = constant_plain n (pos 0)
particle_plain n (Some fields.Count) = constant_plain n (pos 0)
particle_plain n (Some _) = record { x = record { makes = refl; there = refl; little = refl; reads = tt }; y = record { makes = refl; there = refl; little = refl; reads = tt }; z = record { makes = refl; there = refl; little = refl; reads = tt } }

pub item_plain : (n : ℕ) (field : Option Field) → ArePlain n (item_loads field)
item_plain n None = constant_plain n (pos 0)
item_plain n (Some fields.Vel) = constant_plain n (pos 0)
item_plain n (Some _) = record { x = record { makes = refl; there = refl; little = refl; reads = tt }; y = record { makes = refl; there = refl; little = refl; reads = tt }; z = record { makes = refl; there = refl; little = refl; reads = tt } }

-- the registers of each name
abbrev pub AreHeld : List Assigned → ℕ → Type 0
AreHeld table n = AllByRecursion (λ (a : Assigned). AreThere n a.at) table

find_held : (test : Assigned → Bool) (table : List Assigned) (n : ℕ) (a : Assigned) → AreHeld table n → find test table ≡ Some a → AreThere n a.at
find_held test [] n a h e = absurd (let no : ⊥ = cc in no)
find_held test (b ∷ table) n a h e = by_test (test b) e (λ f. find_held test table n a h.1 f) where
  by_test : (x : Bool) → cond x (Some b) (find test table) ≡ Some a → (find test table ≡ Some a → AreThere n a.at) → AreThere n a.at
  by_test true e later = let same : b ≡ a = cc in subst (λ (y : Assigned). AreThere n y.at) same h.0
  by_test false e later = later e

pub entry_held : (table : List Assigned) (name : List ℕ) (n : ℕ) (a : Assigned) → AreHeld table n → entry table name ≡ Some a → AreThere n a.at
entry_held table name n a h e = find_held (λ b. bytes_eq b.name name) table n a h e

pub still_held : (table : List Assigned) (n m : ℕ) → n ≤ m → AreHeld table n → AreHeld table m
still_held [] n m le h = tt
still_held (a ∷ table) n m le h = (still_there n m a.at le h.0, still_held table n m le h.1)

module _ (u : ℕ) (s w : RawCode) (t : Tidy true u s w) (there : u < w.masks) where
  declared_sound : (what : DeclKind) → Sound u s (declared_made what u w)
  declared_sound (declared_as.Epi kind scale field) = value_sound u s w t there kind scale (particle_loads (field_named field)) (particle_plain w.numbers (field_named field))
  declared_sound (declared_as.Epj kind scale field) = value_sound u s w t there kind scale (item_loads (field_named field)) (item_plain w.numbers (field_named field))
  declared_sound (declared_as.Param scale v) = value_sound u s w t there kinds.Num scale (alike (lanes.Const v)) (constant_plain w.numbers v)
  declared_sound (declared_as.Force kind scale combine) = nothing_sound u s w t there

  pub named_sound : (decl : Option Decl) (found : Option Assigned) → ((a : Assigned) → found ≡ Some a → AreThere w.numbers a.at) → Sound u s (named_made decl found u w)
  named_sound (Some decl) found h = declared_sound decl.what
  named_sound None (Some a) h = record { tidy = t; within = h a refl }
  named_sound None None h = nothing_sound u s w t there

  pub literal_sound : (mantissa scale : ℕ) → Sound u s (literal_made mantissa scale u w)
  literal_sound mantissa scale = by_test (nat_lt mantissa (2 ^ 63)) where
    by_test : (b : Bool) → Sound u s (cond b (value_made (types.Scaled kinds.Num scale) (alike (lanes.Const (pos mantissa))) u w) (nothing_made u w))
    by_test true = value_sound u s w t there kinds.Num scale _ (constant_plain w.numbers (pos mantissa))
    by_test false = nothing_sound u s w t there

  -- the right operand of `&&` and `||`, and the whole
  and_sound : (mask : ℕ) (made : Made) → s.masks ≤ mask → mask < w.masks → Sound mask w made → Sound u s (with_right mask made.0, made.1)
  and_sound mask made base below h = record { tidy = (lifted u mask s w made t (inr base) h).tidy; within = by_place made.0 (lifted u mask s w made t (inr base) h).within } where
    by_place : (place : Place) → Within s.masks made.1 place → Within s.masks made.1 (with_right mask place)
    by_place (Condition both) k = k
    by_place (Scaled kind scale at) k = (base, let g = (grows h.tidy).masks in omega (arith, below, g))

  or_sound : (mask : ℕ) (made : Made) → s.masks ≤ mask → mask < w.masks → Sound w.masks (with_mask u (lanes.AndNot u mask) w) made → Sound u s (either_made mask made.0 u made.1)
  or_sound mask made base below h =
      let g1 = (grows t).masks in
      let rest : Tidy true u s (with_mask u (lanes.AndNot u mask) w) = tidy.and_not w u u mask t (inl refl) there below in
      let k = lifted u w.masks s (with_mask u (lanes.AndNot u mask) w) made rest (inr g1) h in
      let g2 = (grows h.tidy).masks in
      by_place made.0 k.within k.tidy (omega (arith, g2, there)) (omega (arith, g2, below)) (omega (arith, g2, g1)) where
        by_place : (place : Place) → Within s.masks made.1 place → Tidy true u s made.1 → u < made.1.masks → mask < made.1.masks → s.masks ≤ made.1.masks → Sound u s (either_made mask place u made.1)
        by_place (Condition other) k t2 there2 below2 grown = record { tidy = tidy.either made.1 u mask other t2 (inr base) (inr k.0) below2 k.1; within = (grown, omega arith) }
        by_place (Scaled kind scale at) k t2 there2 below2 grown = record { tidy = t2; within = (base, below2) }

module _ (decls : List Decl) (table : List Assigned) where
  -- one expression after another
  module _ (u : ℕ) (s w : RawCode) (t : Tidy true u s w) (there : u < w.masks) (held : AreHeld table w.numbers) where
    abbrev AfterIs : Expr → Type 0
    AfterIs e = (v : ℕ) (x : RawCode) → v < x.masks → AreHeld table x.numbers → Sound v x (code_of decls table e v x)

    held_on : (x : RawCode) → Grows w x → AreHeld table x.numbers
    held_on x g = still_held table w.numbers x.numbers g.numbers held

    pub right_sound : (p : ℕ) (op : Op2) (left : Place) (e : Expr) → AfterIs e → Within s.masks w left → Sound u s (right_made p op left (code_of decls table e) u w)
    right_sound p op2s.And (Condition m) e h k = and_sound u s w t there m (code_of decls table e m w) k.0 k.1 (h m w k.1 held)
    right_sound p op2s.And (Scaled kind scale at) e h k = nothing_sound u s w t there
    right_sound p op2s.Or (Condition m) e h k =
        let next : RawCode = with_mask u (lanes.AndNot u m) w in
        or_sound u s w t there m (code_of decls table e w.masks next) k.0 k.1 (h w.masks next (omega arith) held)
    right_sound p op2s.Or (Scaled kind scale at) e h k = nothing_sound u s w t there
    right_sound p op left e h k =
        let r = h u w there held in
        let l = lifted u u s w (code_of decls table e u w) t (inl refl) r in
        let g = (grows r.tidy).masks in
        two_made_sound u s (code_of decls table e u w).1 l.tidy (omega (arith, there, g)) p op left (code_of decls table e u w).0 s.masks (still_within s.masks w (code_of decls table e u w).1 (grows r.tidy) left k) l.within
