-- Code that is written in order: each register is written once, but for names that are assigned again, and read only
-- after it. All of it is idle in the lanes that aren't in the mask under which it begins.
use Rattle.std.proofs.Common.{◌≡◌, ℕ, ◌<◌, ◌≤◌, ◌⊎◌, inl, inr, List, [], Bool, true, false, Some, ℤ, Result, refl, sym, subst, arith}
use Rattle.std.specs.List.{AllByRecursion}
use Rattle.lane_code.specs.declared.code.RawCode.{RawCode}
use Rattle.lane_code.specs.declared.instruction.Lane.{Lane}
use Rattle.lane_code.specs.declared.instruction.Lane.TheVariants as lanes
use Rattle.lane_code.specs.declared.instruction.Relation.{Relation}
use Rattle.lane_code.specs.Outcome.{given_of}
use Rattle.lane_code.specs.Steps.{number_of}
use Rattle.lane_code.specs.Validity.{is_shifted_little, is_there, makes_number, numbers_read}
use Rattle.lane_codegen.specs.Writing.{with_copy, with_mask, with_number, with_part, with_slot}
use Rattle.pf_geom.specs.declared.axis.Axis.TheVariants.{X, Y, Z}
use Rattle.pf_model.specs.Particle.{Particle}
use Rattle.pf_model.specs.Totals.{Source}
use Rattle.pf_num.specs.declared.fault.NumFault.{NumFault}

-- the mask is this one, or was made since so many were there
abbrev pub Low : ℕ → ℕ → ℕ → Type 0
Low u base m = (m ≡ u) ⊎ (base ≤ m)

abbrev pub AreBelow : ℕ → List ℕ → Type 0
AreBelow n registers = AllByRecursion (λ r. r < n) registers

-- an act that writes a number, from registers below this one
pub record IsPlain (n : ℕ) (act : Lane) : Type 0 where
  pub makes : makes_number act ≡ true
  pub there : is_there act ≡ true
  pub little : is_shifted_little act ≡ true
  pub reads : AreBelow n (numbers_read act)

-- code written after this, under this mask, for expressions alone or for statements too
pub data Tidy (expressions : Bool) (u : ℕ) (start : RawCode) : RawCode → Type 0 where
  same : Tidy expressions u start start
  number : (w : RawCode) (under : ℕ) (act : Lane) → Tidy expressions u start w → Low u start.masks under → under < w.masks → IsPlain w.numbers act
      → Tidy expressions u start (with_number under act w)
  compare : (w : RawCode) (under : ℕ) (relation : Relation) (a b : ℕ) → Tidy expressions u start w → Low u start.masks under → under < w.masks → a < w.numbers → b < w.numbers
      → Tidy expressions u start (with_mask under (lanes.Compare relation a b) w)
  and_not : (w : RawCode) (under m n : ℕ) → Tidy expressions u start w → Low u start.masks m → m < w.masks → n < w.masks
      → Tidy expressions u start (with_mask under (lanes.AndNot m n) w)
  either : (w : RawCode) (under m n : ℕ) → Tidy expressions u start w → Low u start.masks m → Low u start.masks n → m < w.masks → n < w.masks
      → Tidy expressions u start (with_mask under (lanes.Or m n) w)
  copied : (w : RawCode) (under out from : ℕ) → Tidy expressions u start w → expressions ≡ false → Low u start.masks under → under < w.masks → out < w.numbers → from < w.numbers
      → Tidy expressions u start (with_copy under out from w)
  no_gift : (w : RawCode) → Tidy expressions u start w → expressions ≡ false → Tidy expressions u start (with_slot w)
  gift : (w : RawCode) (under from : ℕ) → Tidy expressions u start w → expressions ≡ false → Low u start.masks under → under < w.masks → from < w.numbers
      → Tidy expressions u start (with_slot (with_part X from under w))
  gifts : (w : RawCode) (under x y z : ℕ) → Tidy expressions u start w → expressions ≡ false → Low u start.masks under → under < w.masks → x < w.numbers → y < w.numbers → z < w.numbers
      → Tidy expressions u start (with_slot (with_part Z z under (with_part Y y under (with_part X x under w))))

pub record Grows (s w : RawCode) : Type 0 where
  pub numbers : s.numbers ≤ w.numbers
  pub masks : s.masks ≤ w.masks
  pub slots : s.slots ≤ w.slots

-- more code after it, under a mask of its own
low_of : (u : ℕ) (s w : RawCode) (v : ℕ) → Grows s w → Low u s.masks v → (m : ℕ) → Low v w.masks m → Low u s.masks m
low_of u s w v g low m (inl e) = subst (λ (x : ℕ). Low u s.masks x) (sym e) low
low_of u s w v g low m (inr h) = let g1 = g.masks in inr (omega (arith, h, g1))

module _ {expressions : Bool} {u : ℕ} {s : RawCode} where
  pub grows : {w : RawCode} → Tidy expressions u s w → Grows s w
  grows same = record { numbers = omega arith; masks = omega arith; slots = omega arith }
  grows (number w under act t a b c) = let g = grows t in let n = g.numbers in record { numbers = omega (arith, n); masks = g.masks; slots = g.slots }
  grows (compare w under relation x y t a b c d) = let g = grows t in let n = g.masks in record { numbers = g.numbers; masks = omega (arith, n); slots = g.slots }
  grows (and_not w under m n t a b c) = let g = grows t in let n = g.masks in record { numbers = g.numbers; masks = omega (arith, n); slots = g.slots }
  grows (either w under m n t a b c d) = let g = grows t in let n = g.masks in record { numbers = g.numbers; masks = omega (arith, n); slots = g.slots }
  grows (copied w under out from t a b c d e) = let g = grows t in record { numbers = g.numbers; masks = g.masks; slots = g.slots }
  grows (no_gift w t a) = let g = grows t in let n = g.slots in record { numbers = g.numbers; masks = g.masks; slots = omega (arith, n) }
  grows (gift w under from t a b c d) = let g = grows t in let n = g.slots in record { numbers = g.numbers; masks = g.masks; slots = omega (arith, n) }
  grows (gifts w under x y z t a b c d e f) = let g = grows t in let n = g.slots in record { numbers = g.numbers; masks = g.masks; slots = omega (arith, n) }

  pub on : (v : ℕ) {w x : RawCode} → Tidy expressions u s w → Low u s.masks v → Tidy expressions v w x → Tidy expressions u s x
  on v t low same = t
  on v {w = w} t low (number w2 under act h a b c) = number w2 under act (on v t low h) (low_of u s w v (grows t) low under a) b c
  on v {w = w} t low (compare w2 under relation x y h a b c d) = compare w2 under relation x y (on v t low h) (low_of u s w v (grows t) low under a) b c d
  on v {w = w} t low (and_not w2 under m n h a b c) = and_not w2 under m n (on v t low h) (low_of u s w v (grows t) low m a) b c
  on v {w = w} t low (either w2 under m n h a b c d) = either w2 under m n (on v t low h) (low_of u s w v (grows t) low m a) (low_of u s w v (grows t) low n b) c d
  on v {w = w} t low (copied w2 under out from h a b c d e) = copied w2 under out from (on v t low h) a (low_of u s w v (grows t) low under b) c d e
  on v {w = w} t low (no_gift w2 h a) = no_gift w2 (on v t low h) a
  on v {w = w} t low (gift w2 under from h a b c d) = gift w2 under from (on v t low h) a (low_of u s w v (grows t) low under b) c d
  on v {w = w} t low (gifts w2 under x y z h a b c d e f) = gifts w2 under x y z (on v t low h) a (low_of u s w v (grows t) low under b) c d e f

  pub onward : {w x : RawCode} → Tidy expressions u s w → Tidy expressions u w x → Tidy expressions u s x
  onward t h = on u t (inl refl) h

pub loosen : {u : ℕ} {s w : RawCode} → Tidy true u s w → Tidy false u s w
loosen same = same
loosen (number w under act t a b c) = number w under act (loosen t) a b c
loosen (compare w under relation x y t a b c d) = compare w under relation x y (loosen t) a b c d
loosen (and_not w under m n t a b c) = and_not w under m n (loosen t) a b c
loosen (either w under m n t a b c d) = either w under m n (loosen t) a b c d
loosen (copied w under out from t a b c d e) = absurd (let no : ⊥ = cc in no)
loosen (no_gift w t a) = absurd (let no : ⊥ = cc in no)
loosen (gift w under from t a b c d) = absurd (let no : ⊥ = cc in no)
loosen (gifts w under x y z t a b c d e f) = absurd (let no : ⊥ = cc in no)

-- ---- in a lane

pub record HasNumber (i : Particle) (j : Source) (ns : List ℤ) (act : Lane) : Type 0 where
  pub answer : Result ℤ NumFault
  pub is : number_of i j ns act ≡ Some answer

module _ (i : Particle) (j : Source) where
  pub has_number : (ns : List ℤ) (act : Lane) → makes_number act ≡ true → HasNumber i j ns act
  has_number ns (lanes.Compare relation a b) e = absurd (let no : ⊥ = cc in no)
  has_number ns (lanes.And m n) e = absurd (let no : ⊥ = cc in no)
  has_number ns (lanes.AndNot m n) e = absurd (let no : ⊥ = cc in no)
  has_number ns (lanes.Or m n) e = absurd (let no : ⊥ = cc in no)
  has_number ns (lanes.Give slot axis a) e = absurd (let no : ⊥ = cc in no)
  has_number ns _ e = record { answer = _; is = refl }

pub gives_nothing : (ns : List ℤ) (act : Lane) → makes_number act ≡ true → given_of ns act ≡ []
gives_nothing ns (lanes.Give slot axis a) e = absurd (let no : ⊥ = cc in no)
gives_nothing ns _ e = refl

-- the code of an expression gives to no slot
pub same_slots : {u : ℕ} {s w : RawCode} → Tidy true u s w → w.slots ≡ s.slots
same_slots same = refl
same_slots (number w under act t a b c) = same_slots t
same_slots (compare w under relation x y t a b c d) = same_slots t
same_slots (and_not w under m n t a b c) = same_slots t
same_slots (either w under m n t a b c d) = same_slots t
same_slots (copied w under out from t a b c d e) = absurd (let no : ⊥ = cc in no)
same_slots (no_gift w t a) = absurd (let no : ⊥ = cc in no)
same_slots (gift w under from t a b c d) = absurd (let no : ⊥ = cc in no)
same_slots (gifts w under x y z t a b c d e f) = absurd (let no : ⊥ = cc in no)
