-- What is written for a value gives that value in a lane, or faults where there is none.
use Rattle.std.proofs.Common.{◌≡◌, ℕ, ◌+◌, ◌<◌, ◌^◌, List, [], ◌∷◌, length, set, Bool, true, false, cond, Some, None, Result, Ok, Err, ℤ, pos, ◌+ℤ◌, ◌-ℤ◌, ◌*ℤ◌, neg_ℤ, unsigned_abs, refl, ap, ap₂, ◌∙◌, arith}
use Rattle.std.specs.Prelude.{int_le, int_div}
use Rattle.std.proofs.lemmas.List.{get_or-set_same, get_or-set_other, length-set}
use Rattle.pf_num.specs.declared.fault.NumFault.{NumFault}
use Rattle.pf_num.specs.Exact.{exact}
use Rattle.pf_num.specs.InnerProduct.{inner_product}
use Rattle.pf_num.specs.Quotient.{exact_quotient}
use Rattle.pf_num.specs.SquareRoot.{exact_root}
use Rattle.kern_tree.specs.declared.kernel.Kind.TheVariants as kinds
use Rattle.kern_types.specs.declared.expr_type.ExprType.TheVariants as types
use Rattle.kern_meaning.specs.declared.stop.Stop.TheVariants as stops
use Rattle.kern_meaning.specs.declared.value.Value.{Value}
use Rattle.kern_meaning.specs.declared.value.Value.TheVariants as values
use Rattle.kern_meaning.specs.Operators.{num, vec_of}
use Rattle.kern_meaning.specs.Stops.{OrStop}
use Rattle.lane_code.specs.declared.code.RawCode.{RawCode}
use Rattle.lane_code.specs.declared.instruction.Lane.{Lane}
use Rattle.lane_code.specs.declared.instruction.Lane.TheVariants as lanes
use Rattle.lane_code.specs.Outcome.{given_of}
use Rattle.lane_code.specs.Steps.{LaneState, mask_at, number_at, number_of, truth_of_act}
use Rattle.lane_code.specs.Validity.{numbers_read}
use Rattle.lane_codegen.specs.declared.acts.Acts.{Acts}
use Rattle.lane_codegen.specs.declared.place.Place.{Place}
use Rattle.lane_codegen.specs.declared.place.Place.TheVariants.{Scaled, Condition}
use Rattle.lane_codegen.specs.Writing.{Made, value_made, with_number}
use Rattle.pf_model.specs.Particle.{Particle}
use Rattle.pf_model.specs.Totals.{Source}
use Rattle.lane_codegen.proofs.Idle.{lane, lane_more, lane_none}
use Rattle.lane_codegen.proofs.LaneSteps.{mask_written, number_faults, number_written, with_truth, with_value}
use Rattle.lane_codegen.proofs.Runs.{Running}
use Rattle.lane_codegen.proofs.Sound.{ArePlain, more_plain}
use Rattle.lane_codegen.proofs.Tidy.{AreBelow, IsPlain}

-- the value that stands in a place
abbrev pub value_at : Place → LaneState → Value
value_at (Scaled kinds.Num scale at) t = values.Num (number_at t.numbers at.x) scale
value_at (Scaled kinds.Vec3 scale at) t = values.Vec3 (number_at t.numbers at.x ∷ number_at t.numbers at.y ∷ number_at t.numbers at.z ∷ []) scale
value_at (Condition mask) t = values.Condition (mask_at t.masks mask)

-- ---- acts over registers that are kept

module _ (i : Particle) (j : Source) (n : ℕ) (ns later : List ℤ) (kept : (r : ℕ) → r < n → number_at later r ≡ number_at ns r) where
  pub reads_kept : (act : Lane) → AreBelow n (numbers_read act) → number_of i j later act ≡ number_of i j ns act
  reads_kept (lanes.Copy a) h = ap (λ x. Some (Ok x)) (kept a h.0)
  reads_kept (lanes.Neg a) h = ap (λ x. Some (exact (neg_ℤ x))) (kept a h.0)
  reads_kept (lanes.Abs a) h = ap (λ x. Some (exact (pos (unsigned_abs x)))) (kept a h.0)
  reads_kept (lanes.Root a) h = ap (λ x. Some (exact_root x)) (kept a h.0)
  reads_kept (lanes.Add a b) h = ap₂ (λ x y. Some (exact (x +ℤ y))) (kept a h.0) (kept b h.1.0)
  reads_kept (lanes.Sub a b) h = ap₂ (λ x y. Some (exact (x -ℤ y))) (kept a h.0) (kept b h.1.0)
  reads_kept (lanes.Mul a b) h = ap₂ (λ x y. Some (exact (x *ℤ y))) (kept a h.0) (kept b h.1.0)
  reads_kept (lanes.Div a b) h = ap₂ (λ x y. Some (exact_quotient x y)) (kept a h.0) (kept b h.1.0)
  reads_kept (lanes.Dot a b c d e f) h =
      ap₂ (λ (x y : List ℤ). Some (exact (inner_product x y)))
      (ap₂ (λ (x : ℤ) (xs : List ℤ). x ∷ xs) (kept a h.0) (ap₂ (λ (x : ℤ) (xs : List ℤ). x ∷ xs) (kept b h.1.0) (ap (λ (x : ℤ). x ∷ []) (kept c h.1.1.0))))
      (ap₂ (λ (x : ℤ) (xs : List ℤ). x ∷ xs) (kept d h.1.1.1.0) (ap₂ (λ (x : ℤ) (xs : List ℤ). x ∷ xs) (kept e h.1.1.1.1.0) (ap (λ (x : ℤ). x ∷ []) (kept f h.1.1.1.1.1.0))))
  reads_kept (lanes.MulDiv a b c) h = ap₂ (λ x y. Some (exact_quotient x y)) (ap₂ (λ x y. x *ℤ y) (kept a h.0) (kept b h.1.0)) (kept c h.1.1.0)
  reads_kept (lanes.Up a k) h = ap (λ x. Some (exact (x *ℤ pos (2 ^ k)))) (kept a h.0)
  reads_kept (lanes.Down a k) h = ap (λ x. Some (exact (int_div x (pos (2 ^ k))))) (kept a h.0)
  reads_kept (lanes.Least a b) h = ap₂ (λ x y. Some (Ok (cond (int_le x y) x y))) (kept a h.0) (kept b h.1.0)
  reads_kept (lanes.Most a b) h = ap₂ (λ x y. Some (Ok (cond (int_le x y) y x))) (kept a h.0) (kept b h.1.0)
  reads_kept _ h = refl

module _ (i : Particle) (j : Source) (start : Running) where
  -- the lane after what was written for a value of this place
  pub record Holds (made : Made) (v : Value) : Type 0 where
    pub there : Running
    pub is : lane i j start made.1 ≡ Some there
    pub value : value_at made.0 there.state ≡ v

  -- where there is no result, nothing is said
  abbrev pub Evaluates : Made → OrStop Value → Type 0
  Evaluates made (Ok v) = Holds made v
  Evaluates made (Err (stops.Fault fault)) = lane i j start made.1 ≡ None
  Evaluates made (Err stops.NoResult) = Unit {0}

  -- in a lane of the mask, where there is room for more registers
  module _ (u : ℕ) (w : RawCode) (l : Running) (is : lane i j start w ≡ Some l) (masked : mask_at l.state.masks u ≡ true) where
    one_number : (act : Lane) (v : ℤ) → IsPlain w.numbers act → number_of i j l.state.numbers act ≡ Some (Ok v) → lane i j start (with_number u act w) ≡ Some (with_value w.numbers v l)
    one_number act v p e = lane_more i j start w _ l is ∙ number_written i j u w.numbers act l v p.makes masked e

    one_fault : (act : Lane) (fault : NumFault) → IsPlain w.numbers act → number_of i j l.state.numbers act ≡ Some (Err fault) → lane i j start (with_number u act w) ≡ None
    one_fault act fault p e = lane_more i j start w _ l is ∙ number_faults i j u w.numbers act l fault p.makes masked e

    module _ (room : w.numbers < length l.state.numbers) where
      pub num_evaluates : (scale : ℕ) (acts : Acts) (r : Result ℤ NumFault) → ArePlain w.numbers acts → number_of i j l.state.numbers acts.x ≡ Some r → Evaluates (value_made (types.Scaled kinds.Num scale) acts u w) (num scale r)
      num_evaluates scale acts (Ok v) p e = record { there = with_value w.numbers v l; is = one_number acts.x v p.x e; value = ap (λ x. values.Num x scale) (get_or-set_same l.state.numbers w.numbers v (pos 0) room) }
      num_evaluates scale acts (Err fault) p e = one_fault acts.x fault p.x e

  -- the numbers below one that is written
  below_kept : (ns : List ℤ) (n : ℕ) (v : ℤ) (r : ℕ) → r < n → number_at (set ns n v) r ≡ number_at ns r
  below_kept ns n v r less = get_or-set_other ns n r v (pos 0) (λ e. omega (arith, less, e))

  module _ (u : ℕ) (w : RawCode) (l : Running) (is : lane i j start w ≡ Some l) (masked : mask_at l.state.masks u ≡ true) (room : w.numbers + 2 < length l.state.numbers) (scale : ℕ) (acts : Acts) (p : ArePlain w.numbers acts) where
    third : (v1 v2 : ℤ) → lane i j start (with_number u acts.y (with_number u acts.x w)) ≡ Some (with_value (w.numbers + 1) v2 (with_value w.numbers v1 l)) → (r3 : Result ℤ NumFault) → number_of i j l.state.numbers acts.z ≡ Some r3
        → Evaluates (value_made (types.Scaled kinds.Vec3 scale) acts u w) (vec_of scale (Ok v1) (Ok v2) r3)
    third v1 v2 is2 r3 e3 = by_answer r3 (reads_kept i j w.numbers l.state.numbers (set (set l.state.numbers w.numbers v1) (w.numbers + 1) v2) (λ r less. below_kept (set l.state.numbers w.numbers v1) (w.numbers + 1) v2 r (omega (arith, less)) ∙ below_kept l.state.numbers w.numbers v1 r less) acts.z p.z.reads ∙ e3) where
      plain : IsPlain (w.numbers + 1 + 1) acts.z
      plain = more_plain w.numbers (w.numbers + 1 + 1) (omega arith) acts.z p.z

      by_answer : (r3 : Result ℤ NumFault) → number_of i j (set (set l.state.numbers w.numbers v1) (w.numbers + 1) v2) acts.z ≡ Some r3 → Evaluates (value_made (types.Scaled kinds.Vec3 scale) acts u w) (vec_of scale (Ok v1) (Ok v2) r3)
      by_answer (Err fault) e = one_fault u (with_number u acts.y (with_number u acts.x w)) (with_value (w.numbers + 1) v2 (with_value w.numbers v1 l)) is2 masked acts.z fault plain e
      by_answer (Ok v3) e =
          let ns1 : List ℤ = set l.state.numbers w.numbers v1 in
          let ns2 : List ℤ = set ns1 (w.numbers + 1) v2 in
          let long1 = length-set l.state.numbers w.numbers v1 in
          let long2 = length-set ns1 (w.numbers + 1) v2 in
          let x_is : number_at (set ns2 (w.numbers + 1 + 1) v3) w.numbers ≡ v1 = below_kept ns2 (w.numbers + 1 + 1) v3 w.numbers (omega arith) ∙ below_kept ns1 (w.numbers + 1) v2 w.numbers (omega arith) ∙ get_or-set_same l.state.numbers w.numbers v1 (pos 0) (omega (arith, room)) in
          let y_is : number_at (set ns2 (w.numbers + 1 + 1) v3) (w.numbers + 1) ≡ v2 = below_kept ns2 (w.numbers + 1 + 1) v3 (w.numbers + 1) (omega arith) ∙ get_or-set_same ns1 (w.numbers + 1) v2 (pos 0) (omega (arith, room, long1)) in
          let z_is : number_at (set ns2 (w.numbers + 1 + 1) v3) (w.numbers + 1 + 1) ≡ v3 = get_or-set_same ns2 (w.numbers + 1 + 1) v3 (pos 0) (omega (arith, room, long1, long2)) in
          record {
            there = with_value (w.numbers + 1 + 1) v3 (with_value (w.numbers + 1) v2 (with_value w.numbers v1 l));
            is = one_number u (with_number u acts.y (with_number u acts.x w)) (with_value (w.numbers + 1) v2 (with_value w.numbers v1 l)) is2 masked acts.z v3 plain e;
            value = ap (λ (xs : List ℤ). values.Vec3 xs scale) (ap₂ (λ (x : ℤ) (xs : List ℤ). x ∷ xs) x_is (ap₂ (λ (x : ℤ) (xs : List ℤ). x ∷ xs) y_is (ap (λ (x : ℤ). x ∷ []) z_is)));
          }

    second : (v1 : ℤ) → lane i j start (with_number u acts.x w) ≡ Some (with_value w.numbers v1 l) → (r2 r3 : Result ℤ NumFault) → number_of i j l.state.numbers acts.y ≡ Some r2 → number_of i j l.state.numbers acts.z ≡ Some r3
        → Evaluates (value_made (types.Scaled kinds.Vec3 scale) acts u w) (vec_of scale (Ok v1) r2 r3)
    second v1 is1 r2 r3 e2 e3 = by_answer r2 (reads_kept i j w.numbers l.state.numbers (set l.state.numbers w.numbers v1) (λ r less. below_kept l.state.numbers w.numbers v1 r less) acts.y p.y.reads ∙ e2) where
      plain : IsPlain (w.numbers + 1) acts.y
      plain = more_plain w.numbers (w.numbers + 1) (omega arith) acts.y p.y

      by_answer : (r2 : Result ℤ NumFault) → number_of i j (set l.state.numbers w.numbers v1) acts.y ≡ Some r2 → Evaluates (value_made (types.Scaled kinds.Vec3 scale) acts u w) (vec_of scale (Ok v1) r2 r3)
      by_answer (Err fault) e = lane_none i j start (with_number u acts.y (with_number u acts.x w)) _ (one_fault u (with_number u acts.x w) (with_value w.numbers v1 l) is1 masked acts.y fault plain e)
      by_answer (Ok v2) e = third v1 v2 (one_number u (with_number u acts.x w) (with_value w.numbers v1 l) is1 masked acts.y v2 plain e) r3 e3

    pub vec_evaluates : (r1 r2 r3 : Result ℤ NumFault) → number_of i j l.state.numbers acts.x ≡ Some r1 → number_of i j l.state.numbers acts.y ≡ Some r2 → number_of i j l.state.numbers acts.z ≡ Some r3
        → Evaluates (value_made (types.Scaled kinds.Vec3 scale) acts u w) (vec_of scale r1 r2 r3)
    vec_evaluates (Err fault) r2 r3 e1 e2 e3 = lane_none i j start (with_number u acts.y (with_number u acts.x w)) _ (lane_none i j start (with_number u acts.x w) _ (one_fault u w l is masked acts.x fault p.x e1))
    vec_evaluates (Ok v1) r2 r3 e1 e2 e3 = second v1 (one_number u w l is masked acts.x v1 p.x e1) r2 r3 e2 e3

  -- a new mask
  pub mask_evaluates : (u : ℕ) (w : RawCode) (l : Running) (act : Lane) (y z : Lane) (b : Bool) → lane i j start w ≡ Some l → w.masks < length l.state.masks → number_of i j l.state.numbers act ≡ None → truth_of_act (mask_at l.state.masks u) l.state act ≡ Some b → given_of l.state.numbers act ≡ []
      → Evaluates (value_made types.Condition (record { x = act; y = y; z = z }) u w) (Ok (values.Condition b))
  mask_evaluates u w l act y z b is room no_number truth none = record {
    there = with_truth w.masks b l;
    is = lane_more i j start w _ l is ∙ mask_written i j u w.masks act b l no_number truth none;
    value = ap values.Condition (get_or-set_same l.state.masks w.masks b false room);
  }
