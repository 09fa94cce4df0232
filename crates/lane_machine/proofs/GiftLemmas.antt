-- What one instruction gives in all lanes.
use Rattle.std.proofs.Common.{◌≡◌, ℕ, ◌+◌, ◌<◌, ◌≤◌, ◌==◌, ℤ, Bool, true, false, ◌&&◌, ◌||◌, List, [], ◌∷◌, if◌then◌else◌, Option, length, set, refl, sym, ap, subst, ◌∙◌, arith, fold}
use Rattle.std.specs.Prelude.{slice_get}
use Rattle.std.proofs.lemmas.List.{length-set, get_or-set_same, get_or-set_other}
use Rattle.std.proofs.lemmas.List.Sums.{fold-append}
use Rattle.std.proofs.lemmas.List.Elements.{All-set, All-get_or}
use Rattle.std.proofs.lemmas.Bool.{eqb-true, eqb-false, eq-eqb}
use Rattle.pf_geom.specs.declared.axis.Axis.{Axis}
use Rattle.pf_geom.specs.declared.axis.Axis.TheVariants.{X, Y, Z}
use Rattle.lane_code.specs.declared.instruction.Instr.{Instr}
use Rattle.lane_code.specs.declared.instruction.Lane.{Lane}
use Rattle.lane_code.specs.declared.instruction.Lane.TheVariants.{Give}
use Rattle.lane_code.specs.Outcome.{Given, given_by, given_of}
use Rattle.lane_code.specs.Steps.{LaneState, mask_at, number_at}
use Rattle.lane_code.specs.Validity.{is_axis, makes_number, makes_mask}
use Rattle.lane_machine.specs.Gathered.{AddsLanes, gathered, numbers_to, goes_to, is_force, total_at, gift_of}
use Rattle.lane_machine.specs.Total.{Summed, AreFew, along, with_along, joined}
use Rattle.lane_machine.proofs.GatherLemmas.{gathered_same, gathered_none, gathered_more}
use Rattle.lane_machine.proofs.TotalLemmas.{few_at_least, all_at_least, same_combine}

-- nothing goes to any variable
pub adds_nothing : (slots : List ℕ) (given : ℕ → List Given) (count most : ℕ) (old : List Summed)
    → ((f : ℕ) (axis : Axis) (l : ℕ) → f < length old → numbers_to slots f axis (given l) ≡ []) → AddsLanes slots given count most old old
adds_nothing slots given count most old none = record {
  same_length = refl;
  combines = λ f. refl;
  totals = λ f axis h. ap (λ ns. fold (joined (total_at old f).combine) (along axis (total_at old f)) ns)
      (sym (gathered_none (λ l. numbers_to slots f axis (given l)) count (λ l less. none f axis l h)));
  few = λ n all. all_at_least n (n + most) old (omega arith) all;
}

-- ---- where a contribution goes

same_or : (b : Bool) (xs : List ℤ) → xs ≡ (if b then xs else xs)
same_or true xs = refl
same_or false xs = refl

module _ (slots : List ℕ) (f : ℕ) (axis : Axis) where
  one : (m : Bool) (g : Given)
      → numbers_to slots f axis (if m then g ∷ [] else []) ≡ (if goes_to slots f axis g then (if m then g.number ∷ [] else []) else [])
  one true g = refl
  one false g = same_or (goes_to slots f axis g) []

  pub gift : (x : Instr) (s : LaneState) (slot register : ℕ) (along : Axis) (target : Option ℕ) → x.act ≡ Give slot along register → slice_get slots slot ≡ target
      → numbers_to slots f axis (given_by x s) ≡ (if is_force f target && is_axis along axis then gift_of x.under register s else [])
  gift x s slot register along target e is =
      ap (λ act. numbers_to slots f axis (if mask_at s.masks x.under then given_of s.numbers act else [])) e
      ∙ one (mask_at s.masks x.under) (record { slot = slot; axis = along; number = number_at s.numbers register })
      ∙ ap (λ o. if is_force f o && is_axis along axis then gift_of x.under register s else []) is

-- it goes to no variable
pub no_target : (f : ℕ) (along axis : Axis) (target : Option ℕ) (xs : List ℤ) → is_force f target ≡ false
    → (if is_force f target && is_axis along axis then xs else []) ≡ []
no_target f along axis target xs e = ap (λ b. if b && is_axis along axis then xs else []) e

-- ---- a contribution that goes to a variable

module _ (t : Summed) (own all : ℕ → List ℤ) (count : ℕ) where
  at_axis : (axis a : Axis) → ((l : ℕ) → l < count → all l ≡ (if is_axis axis a then own l else []))
      → along a (with_along axis t (fold (joined t.combine) (along axis t) (gathered own count)))
      ≡ fold (joined t.combine) (along a t) (gathered all count)
  at_axis X X same = ap (λ ns. fold (joined t.combine) t.x ns) (sym (gathered_same all own count same))
  at_axis X Y same = ap (λ ns. fold (joined t.combine) t.y ns) (sym (gathered_none all count same))
  at_axis X Z same = ap (λ ns. fold (joined t.combine) t.z ns) (sym (gathered_none all count same))
  at_axis Y X same = ap (λ ns. fold (joined t.combine) t.x ns) (sym (gathered_none all count same))
  at_axis Y Y same = ap (λ ns. fold (joined t.combine) t.y ns) (sym (gathered_same all own count same))
  at_axis Y Z same = ap (λ ns. fold (joined t.combine) t.z ns) (sym (gathered_none all count same))
  at_axis Z X same = ap (λ ns. fold (joined t.combine) t.x ns) (sym (gathered_none all count same))
  at_axis Z Y same = ap (λ ns. fold (joined t.combine) t.y ns) (sym (gathered_none all count same))
  at_axis Z Z same = ap (λ ns. fold (joined t.combine) t.z ns) (sym (gathered_same all own count same))

module _ (slots : List ℕ) (given : ℕ → List Given) (count : ℕ) (old : List Summed) (force : ℕ) (axis : Axis) (t new : Summed) (own : ℕ → List ℤ)
    (within : force < length old) (is : total_at old force ≡ t)
    (summed : new ≡ with_along axis t (fold (joined t.combine) (along axis t) (gathered own count)))
    (goes : (f : ℕ) (a : Axis) (l : ℕ) → numbers_to slots f a (given l) ≡ (if (force == f) && is_axis axis a then own l else [])) where
  abbrev pub after : List Summed
  after = set old force new

  there : total_at after force ≡ new
  there = get_or-set_same old force new _ within

  elsewhere : (f : ℕ) → (force == f) ≡ false → total_at after f ≡ total_at old f
  elsewhere f e = get_or-set_other old force f new _ (λ same. eqb-false force f e (sym same))

  combine_at : (f : ℕ) (b : Bool) → (force == f) ≡ b → (total_at after f).combine ≡ (total_at old f).combine
  combine_at f true e = subst (λ n. (total_at after n).combine ≡ (total_at old n).combine) (eqb-true force f e)
      (ap (λ s. s.combine) (there ∙ summed) ∙ same_combine axis t _ ∙ ap (λ s. s.combine) (sym is))
  combine_at f false e = ap (λ s. s.combine) (elsewhere f e)

  own_total : (a : Axis) → along a (total_at after force)
      ≡ fold (joined (total_at old force).combine) (along a (total_at old force)) (gathered (λ l. numbers_to slots force a (given l)) count)
  own_total a =
      let equal : (force == force) ≡ true = eq-eqb force force refl in
      ap (along a) (there ∙ summed)
      ∙ at_axis t own (λ l. numbers_to slots force a (given l)) count axis a
      (λ l less. goes force a l ∙ ap (λ b. if b && is_axis axis a then own l else []) equal)
      ∙ ap (λ s. fold (joined s.combine) (along a s) (gathered (λ l. numbers_to slots force a (given l)) count)) (sym is)

  total_of : (f : ℕ) (a : Axis) (b : Bool) → (force == f) ≡ b → along a (total_at after f)
      ≡ fold (joined (total_at old f).combine) (along a (total_at old f)) (gathered (λ l. numbers_to slots f a (given l)) count)
  total_of f a true e = subst (λ n. along a (total_at after n)
      ≡ fold (joined (total_at old n).combine) (along a (total_at old n)) (gathered (λ l. numbers_to slots n a (given l)) count)) (eqb-true force f e) (own_total a)
  total_of f a false e = ap (along a) (elsewhere f e)
      ∙ ap (λ ns. fold (joined (total_at old f).combine) (along a (total_at old f)) ns)
      (sym (gathered_none (λ l. numbers_to slots f a (given l)) count (λ l less. goes f a l ∙ ap (λ b. if b && is_axis axis a then own l else []) e)))

  pub adds_one : (most : ℕ) → count ≤ most → ((n : ℕ) → AreFew n t → AreFew (n + count) new) → AddsLanes slots given count most old after
  adds_one most enough few = record {
    same_length = length-set old force new;
    combines = λ f. combine_at f (force == f) refl;
    totals = λ f a h. total_of f a (force == f) refl;
    few = λ n all.
        All-set (AreFew (n + most)) old force new
        (few_at_least (n + count) (n + most) new (omega (arith, enough)) (few n (subst (AreFew n) is (All-get_or (AreFew n) old force _ within all))))
        (all_at_least n (n + most) old (omega arith) all);
  }

-- instructions that write a register give nothing
no_gift : (ns : List ℤ) (act : Lane) → (makes_number act || makes_mask act) ≡ true → given_of ns act ≡ []
no_gift ns (Give slot axis a) e = absurd (let no : ⊥ = cc in no)
no_gift ns _ e = refl

both_empty : (b : Bool) (gs : List Given) → gs ≡ [] → (if b then gs else []) ≡ []
both_empty true gs e = e
both_empty false gs e = refl

pub nothing_given : (slots : List ℕ) (f : ℕ) (axis : Axis) (x : Instr) (s : LaneState) → (makes_number x.act || makes_mask x.act) ≡ true
    → numbers_to slots f axis (given_by x s) ≡ []
nothing_given slots f axis x s e =
    ap (numbers_to slots f axis) (both_empty (mask_at s.masks x.under) (given_of s.numbers x.act) (no_gift s.numbers x.act e))

-- ---- one lane after another

pub one_gift : (axis : Axis) (total sum next : Summed) (own : ℕ → List ℤ) (k : ℕ)
    → sum ≡ with_along axis total (fold (joined total.combine) (along axis total) (gathered own k))
    → next ≡ with_along axis sum (fold (joined sum.combine) (along axis sum) (own k))
    → next ≡ with_along axis total (fold (joined total.combine) (along axis total) (gathered own (k + 1)))
one_gift X total sum next own k e f =
    f ∙ ap (λ s. with_along X s (fold (joined s.combine) (along X s) (own k))) e
    ∙ ap (λ a. with_along X total a) (sym (fold-append (joined total.combine) total.x (gathered own k) (own k)) ∙ ap (λ ns. fold (joined total.combine) total.x ns) (sym (gathered_more own k)))
one_gift Y total sum next own k e f =
    f ∙ ap (λ s. with_along Y s (fold (joined s.combine) (along Y s) (own k))) e
    ∙ ap (λ a. with_along Y total a) (sym (fold-append (joined total.combine) total.y (gathered own k) (own k)) ∙ ap (λ ns. fold (joined total.combine) total.y ns) (sym (gathered_more own k)))
one_gift Z total sum next own k e f =
    f ∙ ap (λ s. with_along Z s (fold (joined s.combine) (along Z s) (own k))) e
    ∙ ap (λ a. with_along Z total a) (sym (fold-append (joined total.combine) total.z (gathered own k) (own k)) ∙ ap (λ ns. fold (joined total.combine) total.z ns) (sym (gathered_more own k)))
