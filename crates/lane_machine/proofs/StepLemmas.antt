-- Instructions in a lane.
use Rattle.std.proofs.Common.{◌≡◌, ℕ, ℤ, pos, Bool, true, false, List, Option, Some, None, Result, set, refl, sym, ap, ap₂, ◌∙◌}
use Rattle.std.proofs.lemmas.List.{set-get_or}
use Rattle.pf_num.specs.declared.fault.NumFault.{NumFault}
use Rattle.pf_model.specs.Particle.{Particle}
use Rattle.pf_model.specs.Totals.{Source}
use Rattle.lane_code.specs.declared.instruction.Instr.{Instr}
use Rattle.lane_code.specs.declared.instruction.Lane.{Lane}
use Rattle.lane_code.specs.declared.instruction.Lane.TheVariants as lanes
use Rattle.lane_code.specs.Steps.{LaneState, mask_at, number_at, number_of, truth_of_act, step, written, with_mask}
use Rattle.lane_code.specs.Validity.{makes_number, makes_mask}

module _ (i : Particle) (j : Source) where
  gives_number : (ns : List ℤ) (act : Lane) → makes_number act ≡ true → (r : Result ℤ NumFault) × (number_of i j ns act ≡ Some r)
  gives_number ns (lanes.Const value) e = (_, refl)
  gives_number ns (lanes.LoadI field axis) e = (_, refl)
  gives_number ns (lanes.LoadJ field axis) e = (_, refl)
  gives_number ns (lanes.Copy a) e = (_, refl)
  gives_number ns (lanes.Neg a) e = (_, refl)
  gives_number ns (lanes.Abs a) e = (_, refl)
  gives_number ns (lanes.Root a) e = (_, refl)
  gives_number ns (lanes.Add a b) e = (_, refl)
  gives_number ns (lanes.Sub a b) e = (_, refl)
  gives_number ns (lanes.Mul a b) e = (_, refl)
  gives_number ns (lanes.Div a b) e = (_, refl)
  gives_number ns (lanes.Dot a b c d f g) e = (_, refl)
  gives_number ns (lanes.MulDiv a b c) e = (_, refl)
  gives_number ns (lanes.Up a k) e = (_, refl)
  gives_number ns (lanes.Down a k) e = (_, refl)
  gives_number ns (lanes.Least a b) e = (_, refl)
  gives_number ns (lanes.Most a b) e = (_, refl)
  gives_number ns (lanes.Compare relation a b) e = absurd (let no : ⊥ = cc in no)
  gives_number ns (lanes.And m n) e = absurd (let no : ⊥ = cc in no)
  gives_number ns (lanes.AndNot m n) e = absurd (let no : ⊥ = cc in no)
  gives_number ns (lanes.Or m n) e = absurd (let no : ⊥ = cc in no)
  gives_number ns (lanes.Give slot axis a) e = absurd (let no : ⊥ = cc in no)

  -- a lane that isn't in the mask of an instruction for numbers stays as it is
  pub idle : (x : Instr) (s : LaneState) → makes_number x.act ≡ true → mask_at s.masks x.under ≡ false → step i j x s ≡ Some s
  idle x s e f = let (r, is) = gives_number s.numbers x.act e in
      ap (λ n. written (mask_at s.masks x.under) x.out s n (truth_of_act (mask_at s.masks x.under) s x.act)) is
      ∙ ap (λ b. written b x.out s (Some r) (truth_of_act (mask_at s.masks x.under) s x.act)) f

-- a register with the number that it has
pub same_number : (s : LaneState) (out : ℕ) (number : ℤ) → number ≡ number_at s.numbers out
    → Some s ≡ Some (record { numbers = set s.numbers out number; masks = s.masks })
same_number s out number e =
    let P : List ℤ → Option LaneState = λ ns. Some (record { numbers = ns; masks = s.masks }) in
    ap P (sym (set-get_or s.numbers out (pos 0)) ∙ ap (set s.numbers out) (sym e))

module _ (i : Particle) (j : Source) where
  gives_mask : (ns : List ℤ) (act : Lane) → makes_mask act ≡ true → number_of i j ns act ≡ None
  gives_mask ns (lanes.Compare relation a b) e = refl
  gives_mask ns (lanes.And m n) e = refl
  gives_mask ns (lanes.AndNot m n) e = refl
  gives_mask ns (lanes.Or m n) e = refl
  gives_mask ns (lanes.Const value) e = absurd (let no : ⊥ = cc in no)
  gives_mask ns (lanes.LoadI field axis) e = absurd (let no : ⊥ = cc in no)
  gives_mask ns (lanes.LoadJ field axis) e = absurd (let no : ⊥ = cc in no)
  gives_mask ns (lanes.Copy a) e = absurd (let no : ⊥ = cc in no)
  gives_mask ns (lanes.Neg a) e = absurd (let no : ⊥ = cc in no)
  gives_mask ns (lanes.Abs a) e = absurd (let no : ⊥ = cc in no)
  gives_mask ns (lanes.Root a) e = absurd (let no : ⊥ = cc in no)
  gives_mask ns (lanes.Add a b) e = absurd (let no : ⊥ = cc in no)
  gives_mask ns (lanes.Sub a b) e = absurd (let no : ⊥ = cc in no)
  gives_mask ns (lanes.Mul a b) e = absurd (let no : ⊥ = cc in no)
  gives_mask ns (lanes.Div a b) e = absurd (let no : ⊥ = cc in no)
  gives_mask ns (lanes.Dot a b c d f g) e = absurd (let no : ⊥ = cc in no)
  gives_mask ns (lanes.MulDiv a b c) e = absurd (let no : ⊥ = cc in no)
  gives_mask ns (lanes.Up a k) e = absurd (let no : ⊥ = cc in no)
  gives_mask ns (lanes.Down a k) e = absurd (let no : ⊥ = cc in no)
  gives_mask ns (lanes.Least a b) e = absurd (let no : ⊥ = cc in no)
  gives_mask ns (lanes.Most a b) e = absurd (let no : ⊥ = cc in no)
  gives_mask ns (lanes.Give slot axis a) e = absurd (let no : ⊥ = cc in no)

  no_number : (ns : List ℤ) (act : Lane) → makes_number act ≡ false → number_of i j ns act ≡ None
  no_number ns (lanes.Compare relation a b) e = refl
  no_number ns (lanes.And m n) e = refl
  no_number ns (lanes.AndNot m n) e = refl
  no_number ns (lanes.Or m n) e = refl
  no_number ns (lanes.Give slot axis a) e = refl
  no_number ns _ e = absurd (let no : ⊥ = cc in no)

  no_mask : (under : Bool) (s : LaneState) (act : Lane) → makes_mask act ≡ false → truth_of_act under s act ≡ None
  no_mask under s (lanes.Compare relation a b) e = absurd (let no : ⊥ = cc in no)
  no_mask under s (lanes.And m n) e = absurd (let no : ⊥ = cc in no)
  no_mask under s (lanes.AndNot m n) e = absurd (let no : ⊥ = cc in no)
  no_mask under s (lanes.Or m n) e = absurd (let no : ⊥ = cc in no)
  no_mask under s _ e = refl

  -- a lane after an instruction for masks
  pub masked : (x : Instr) (s : LaneState) (truth : Bool) → makes_mask x.act ≡ true → truth_of_act (mask_at s.masks x.under) s x.act ≡ Some truth
      → step i j x s ≡ Some (with_mask x.out s (Some truth))
  masked x s truth e f =
      ap (λ n. written (mask_at s.masks x.under) x.out s n (truth_of_act (mask_at s.masks x.under) s x.act)) (gives_mask s.numbers x.act e)
      ∙ ap (written (mask_at s.masks x.under) x.out s None) f

  -- a lane after an instruction that writes no register
  pub unwritten : (x : Instr) (s : LaneState) → makes_number x.act ≡ false → makes_mask x.act ≡ false → step i j x s ≡ Some s
  unwritten x s e f =
      ap₂ (λ n t. written (mask_at s.masks x.under) x.out s n t) (no_number s.numbers x.act e) (no_mask (mask_at s.masks x.under) s x.act f)
