-- Tallies, contribution by contribution.
use Rattle.std.proofs.Common.{◌≡◌, ℕ, zero, suc, ◌+◌, ◌^◌, ◌<◌, ◌≤◌, ℤ, ◌+ℤ◌, unsigned_abs, to_z, of_z, Bool, true, false, List, [], ◌∷◌, ◌++◌, length, get_or, take, drop, set, Option, Some, None, refl, sym, ap, subst, ◌∙◌, arith}
use Rattle.std.specs.Prelude.{slice_get}
use Rattle.std.specs.List.{All}
use Rattle.std.proofs.lemmas.List.{take_all, drop_all, append-nil}
use Rattle.std.proofs.lemmas.List.Elements.{All-get_or}
use Rattle.std.specs.Str.{bytes_eq}
use Rattle.std.proofs.lemmas.Int.{ints}
use Rattle.std.specs.Int.{w128}
use Rattle.kern_types.specs.declared.force_var.ForceVar.{ForceVar}
use Rattle.kern_meaning.specs.declared.value.Value.{Value}
use Rattle.kern_meaning.specs.Prepared.{given_at}
use Rattle.force_phase.specs.Tally.{Tallied, IsOfFew}
use Rattle.force_phase.specs.Gathered.{with_given, gives_to, with_slot, each_with}
use Rattle.force_phase.proofs.PairLemmas.{length-each_with}

pub sum_of_few : (count : ℕ) (a b : ℤ) → unsigned_abs b ≤ 2 ^ 63 → IsOfFew count a → IsOfFew (count + 1) (a +ℤ b)
sum_of_few count a b p q = omega (arith, ints)

-- a total of few is passed to a function as it is
pub few_passed : (count : ℕ) (total : ℤ) → count < 2 ^ 61 → IsOfFew count total → IsOfFew count (to_z w128 (of_z w128 total))
few_passed count total small few = let same : to_z w128 (of_z w128 total) ≡ total = omega (arith, ints) in subst (IsOfFew count) (sym same) few

-- ---- one `+=` after another

module _ (v : ForceVar) where
  taken : (b : Bool) (g : Option Value) (targets : List (List ℕ)) (given : List (Option Value)) (t : Tallied) (x : List ℕ) → bytes_eq x v.name ≡ b
      → with_given (x ∷ targets) (g ∷ given) v t ≡ with_given targets given v (with_slot v b (given_at (g ∷ given) 0) t)
  taken true None targets given t x e = rw e refl
  taken true (Some value) targets given t x e = rw e refl
  taken false g targets given t x e = rw e refl

  pub slot_step : (targets : List (List ℕ)) (given : List (Option Value)) (n : ℕ) (t : Tallied) → n < length given
      → with_given (drop n targets) (drop n given) v t
      ≡ with_given (drop (suc n) targets) (drop (suc n) given) v (with_slot v (gives_to (slice_get targets n) v.name) (given_at given n) t)
  slot_step targets [] n t h = absurd (omega (arith, h))
  slot_step [] (g ∷ given) zero t h = refl
  slot_step (x ∷ targets) (g ∷ given) zero t h = taken (bytes_eq x v.name) g targets given t x refl
  slot_step [] (g ∷ given) (suc n) t h = refl
  slot_step (x ∷ targets) (g ∷ given) (suc n) t h = slot_step targets given n t (omega (arith, h))

  -- the step of a loop over them
  pub slot_more : (targets : List (List ℕ)) (given : List (Option Value)) (n : ℕ) (t u whole : Tallied) (gives : Bool) (numbers : Option (List ℤ)) → n < length given
      → gives ≡ gives_to (slice_get targets n) v.name → numbers ≡ given_at given n → u ≡ with_slot v gives numbers t
      → with_given (drop n targets) (drop n given) v t ≡ whole → with_given (drop (n + 1) targets) (drop (n + 1) given) v u ≡ whole
  slot_more targets given n t u whole gives numbers h e f g so_far =
      let next : n + 1 ≡ suc n = omega arith in
      ap (λ m. with_given (drop m targets) (drop m given) v u) next
      ∙ ap (with_given (drop (suc n) targets) (drop (suc n) given) v) (g ∙ ap (λ b. with_slot v b numbers t) e ∙ ap (λ ns. with_slot v (gives_to (slice_get targets n) v.name) ns t) f)
      ∙ sym (slot_step targets given n t h) ∙ so_far

  no_slot : (targets : List (List ℕ)) (t : Tallied) → with_given targets [] v t ≡ t
  no_slot [] t = refl
  no_slot (x ∷ targets) t = refl

  -- and its end
  pub slot_end : (targets : List (List ℕ)) (given : List (Option Value)) (n : ℕ) (t whole : Tallied) → n ≡ length given
      → with_given (drop n targets) (drop n given) v t ≡ whole → t ≡ whole
  slot_end targets given n t whole e so_far =
      sym (no_slot (drop n targets) t) ∙ ap (λ rest. with_given (drop n targets) rest v t) (sym (drop_all n given (omega (arith, e)))) ∙ so_far

-- ---- variable after variable

-- a variable's tally is the old one until its turn
kept_part : {X Y : Type 0} (f : X → Y → Y) (vs : List X) (ys : List Y) (i : ℕ) (d : Y) → i < length ys → i < length vs → get_or (take i (each_with f vs ys) ++ drop i ys) i d ≡ get_or ys i d
kept_part f [] ys i d h k = absurd (omega (arith, k))
kept_part f (v ∷ vs) [] i d h k = absurd (omega (arith, h))
kept_part f (v ∷ vs) (y ∷ ys) zero d h k = refl
kept_part f (v ∷ vs) (y ∷ ys) (suc i) d h k = kept_part f vs ys i d (omega (arith, h)) (omega (arith, k))

pub kept_at : {X Y : Type 0} (f : X → Y → Y) (vs : List X) (ys now : List Y) (i : ℕ) (d : Y) → i < length ys → i < length vs
    → now ≡ take i (each_with f vs ys) ++ drop i ys → get_or now i d ≡ get_or ys i d
kept_at f vs ys now i d h k e = ap (λ l. get_or l i d) e ∙ kept_part f vs ys i d h k

each_part : {X Y : Type 0} (f : X → Y → Y) (vs : List X) (ys : List Y) (i : ℕ) (v : X) (y : Y) → i < length ys → i < length vs → v ≡ get_or vs i v → y ≡ get_or ys i y
    → set (take i (each_with f vs ys) ++ drop i ys) i (f v y) ≡ take (suc i) (each_with f vs ys) ++ drop (suc i) ys
each_part f [] ys i v y h k e g = absurd (omega (arith, k))
each_part f (v0 ∷ vs) [] i v y h k e g = absurd (omega (arith, h))
each_part f (v0 ∷ vs) (y0 ∷ ys) zero v y h k e g = ap (λ w. f w y ∷ ys) e ∙ ap (λ w. f v0 w ∷ ys) g
each_part f (v0 ∷ vs) (y0 ∷ ys) (suc i) v y h k e g = ap (λ rest. f v0 y0 ∷ rest) (each_part f vs ys i v y (omega (arith, h)) (omega (arith, k)) e g)

-- the step of a loop over the variables
pub each_more : {X Y : Type 0} (f : X → Y → Y) (vs : List X) (ys now : List Y) (i : ℕ) (v : X) (y z : Y) → i < length ys → i < length vs → v ≡ get_or vs i v → y ≡ get_or now i y → z ≡ f v y
    → now ≡ take i (each_with f vs ys) ++ drop i ys → set now i z ≡ take (i + 1) (each_with f vs ys) ++ drop (i + 1) ys
each_more f vs ys now i v y z h k e g is so_far =
    let next : suc i ≡ i + 1 = omega arith in
    ap (λ l. set l i z) so_far ∙ ap (set (take i (each_with f vs ys) ++ drop i ys) i) is
    ∙ each_part f vs ys i v y h k e (g ∙ kept_at f vs ys now i y h k so_far)
    ∙ ap (λ m. take m (each_with f vs ys) ++ drop m ys) next

-- and its end
pub each_end : {X Y : Type 0} (f : X → Y → Y) (vs : List X) (ys now : List Y) (n : ℕ) → n ≡ length ys → now ≡ take n (each_with f vs ys) ++ drop n ys → now ≡ each_with f vs ys
each_end f vs ys now n e so_far =
    let long : length (each_with f vs ys) ≤ n = let same = length-each_with f vs ys in omega (arith, same, e) in
    so_far ∙ ap (λ l. l ++ drop n ys) (take_all n (each_with f vs ys) long) ∙ ap (λ l. each_with f vs ys ++ l) (drop_all n ys (omega (arith, e))) ∙ append-nil (each_with f vs ys)

-- a tally has room where the old ones have
pub room_at : {X : Type 0} (f : X → Tallied → Tallied) (vs : List X) (ys now : List Tallied) (i most : ℕ) (y : Tallied) → i < length ys → i < length vs
    → All (λ t. t.count < most) ys → y ≡ get_or now i y → now ≡ take i (each_with f vs ys) ++ drop i ys → y.count < most
room_at f vs ys now i most y h k all is so_far =
    let P : Tallied → Type 0 = λ t. t.count < most in
    subst P (sym (is ∙ kept_at f vs ys now i y h k so_far)) (All-get_or P ys i y h all)
