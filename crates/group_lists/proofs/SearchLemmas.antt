-- What a search by halves finds: whether any element passes a test.
use Rattle.std.proofs.Common.{◌≡◌, ℕ, ◌<◌, ◌≤◌, Bool, true, false, ◌||◌, List, [], ◌∷◌, length, get_or, map, inl, inr, refl, sym, ◌∙◌, ap, arith}
use Rattle.std.specs.List.{list_any}
use Rattle.std.specs.List.Sorted.{IsPartitionPoint}
use Rattle.std.proofs.lemmas.Bool.{cases_lt, both_ways, false_from_ne_true}
use Rattle.std.proofs.lemmas.List.{get_or_default}
use Rattle.std.proofs.lemmas.List.Folds.{list_any_none, list_any_at}

-- what passes q stands after what passes p, and then before all that doesn't
pub record StandFirst {X : Type 0} (p q : X → Bool) (xs : List X) : Type 0 where
  pub apart : (x : X) → q x ≡ true → p x ≡ true → ⊥
  pub first : (j k : ℕ) (d : X) → j ≤ k → k < length xs → p (get_or xs j d) ≡ false → q (get_or xs k d) ≡ true → q (get_or xs j d) ≡ true

pub found_none : {X : Type 0} (p q : X → Bool) (xs : List X) (place : ℕ) → StandFirst p q xs → IsPartitionPoint (λ y. p y ≡ true) (λ y. p y ≡ false) xs place → length xs ≤ place → list_any q xs ≡ false
found_none p q xs place h point done =
    list_any_none q xs (λ k d within. false_from_ne_true (q (get_or xs k d)) (λ e. h.apart (get_or xs k d) e (point.0 k d (omega arith) (omega arith))))

pub found_at : {X : Type 0} (p q : X → Bool) (xs : List X) (place : ℕ) (x : X) (b : Bool) → StandFirst p q xs → IsPartitionPoint (λ y. p y ≡ true) (λ y. p y ≡ false) xs place → place < length xs → get_or xs place x ≡ x → q x ≡ b → list_any q xs ≡ b
found_at p q xs place x true h point within at e = list_any_at q xs place x within (ap q at ∙ e)
found_at {X} p q xs place x false h point within at e =
    list_any_none q xs (λ k d inside. false_from_ne_true (q (get_or xs k d)) (λ passes.
    elim (cases_lt k place) [
      | inl less ↦ absurd (h.apart (get_or xs k d) passes (point.0 k d (omega arith) less))
      | inr more ↦
          let here = h.first place k d more inside (point.1 place d (omega arith) within) passes in
          absurd (both_ways (q x) e (ap q (sym at ∙ get_or_default xs place x d within) ∙ here))
    ]))

pub list_any_map : {X Y : Type 0} (p : Y → Bool) (h : X → Y) (xs : List X) → list_any p (map h xs) ≡ list_any (λ x. p (h x)) xs
list_any_map p h [] = refl
list_any_map p h (x ∷ xs) = ap (λ (b : Bool). p (h x) || b) (list_any_map p h xs)
