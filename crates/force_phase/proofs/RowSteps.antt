-- The numbers of tallies, variable after variable.
use Rattle.std.proofs.Common.{◌≡◌, ℕ, zero, suc, ◌+◌, ◌<◌, ℤ, true, false, List, [], ◌∷◌, ◌++◌, length, get_or, take, drop, Some, None, refl, sym, ap, ◌∙◌, append_assoc, arith}
use Rattle.std.specs.List.{list_all}
use Rattle.std.proofs.lemmas.List.{drop_all, append-nil}
use Rattle.pf_num.specs.Exact.{is_i64}
use Rattle.kern_types.specs.declared.force_var.ForceVar.{ForceVar}
use Rattle.run_model.specs.declared.fault.What.TheVariants as what
use Rattle.force_phase.specs.Outcome.{row_width}
use Rattle.force_phase.specs.Rows.{numbers_of, row_of, row_fault}
use Rattle.force_phase.specs.Tally.{Tallied}

drop_next : {X : Type 0} (xs : List X) (k : ℕ) (x : X) → k < length xs → x ≡ get_or xs k x → drop k xs ≡ x ∷ drop (suc k) xs
drop_next [] k x h e = absurd (omega (arith, h))
drop_next (y ∷ xs) zero x h e = ap (λ z. z ∷ xs) (sym e)
drop_next (y ∷ xs) (suc k) x h e = drop_next xs k x (omega (arith, h)) e

-- the element at the place of a loop, and those after it
pub from_drop : {X : Type 0} (xs : List X) (k : ℕ) (x : X) → k < length xs → x ≡ get_or xs k x → drop k xs ≡ x ∷ drop (k + 1) xs
from_drop xs k x h e = let next : suc k ≡ k + 1 = omega arith in drop_next xs k x h e ∙ ap (λ n. x ∷ drop n xs) next

module _ (forces : List ForceVar) (tallies : List Tallied) where
  -- what a loop over the variables keeps: the numbers before k, and no fault before k
  pub record IsRowSoFar (k : ℕ) (row : List ℤ) : Type 0 where
    pub numbers : row ++ row_of (drop k forces) (drop k tallies) ≡ row_of forces tallies
    pub fault : row_fault (k + 1) (drop k forces) (drop k tallies) ≡ row_fault 1 forces tallies

  module _ (k : ℕ) (row : List ℤ) (now : IsRowSoFar k row) (v : ForceVar) (t : Tallied) (inside : k < length forces) (within : k < length tallies) (is_v : v ≡ get_or forces k v) (is_t : t ≡ get_or tallies k t) where
    numbers_next : row_of (drop k forces) (drop k tallies) ≡ numbers_of v.kind t ++ row_of (drop (k + 1) forces) (drop (k + 1) tallies)
    numbers_next =
        ap (λ vs. row_of vs (drop k tallies)) (from_drop forces k v inside is_v)
        ∙ ap (row_of (v ∷ drop (k + 1) forces)) (from_drop tallies k t within is_t)

    fault_here : row_fault 1 forces tallies ≡ row_fault (k + 1) (v ∷ drop (k + 1) forces) (t ∷ drop (k + 1) tallies)
    fault_here = sym now.fault ∙ ap (λ vs. row_fault (k + 1) vs (drop k tallies)) (from_drop forces k v inside is_v) ∙ ap (row_fault (k + 1) (v ∷ drop (k + 1) forces)) (from_drop tallies k t within is_t)

    pub row_more : (row' : List ℤ) → list_all is_i64 (numbers_of v.kind t) ≡ true → row' ≡ row ++ numbers_of v.kind t → IsRowSoFar (k + 1) row'
    row_more row' fits e = record {
      numbers =
          ap (λ l. l ++ row_of (drop (k + 1) forces) (drop (k + 1) tallies)) e
          ∙ append_assoc row (numbers_of v.kind t) (row_of (drop (k + 1) forces) (drop (k + 1) tallies))
          ∙ ap (λ l. row ++ l) (sym numbers_next) ∙ now.numbers;
      fault = sym (fault_here ∙ rw fits refl);
    }

    pub row_stops : list_all is_i64 (numbers_of v.kind t) ≡ false → row_fault 1 forces tallies ≡ Some (what.Sum (k + 1))
    row_stops fits = fault_here ∙ rw fits refl

  pub row_ends : (k : ℕ) (row : List ℤ) → IsRowSoFar k row → k ≡ length forces → (row ≡ row_of forces tallies) × (row_fault 1 forces tallies ≡ None)
  row_ends k row now e =
      let none : drop k forces ≡ [] = drop_all k forces (omega (arith, e)) in (
        sym (append-nil row) ∙ ap (λ vs. row ++ row_of vs (drop k tallies)) (sym none) ∙ now.numbers,
        sym now.fault ∙ ap (λ vs. row_fault (k + 1) vs (drop k tallies)) none,
      )

-- ---- the numbers in their places

module _ (forces : List ForceVar) (tallies : List Tallied) where
  -- and the places that they take
  pub record IsRowPlaced (k place : ℕ) (numbers : List ℤ) : Type 0 where
    pub so_far : IsRowSoFar forces tallies k (take place numbers)
    pub room : place + row_width (drop k forces) ≡ length numbers
