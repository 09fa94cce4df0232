-- What passes have done together, when one of them changes.
use Rattle.std.proofs.Common.{◌≡◌, ◌≢◌, ⊎_elim, ℕ, zero, suc, ◌+◌, ◌≤◌, List, [], ◌∷◌, ◌++◌, set, sym, refl, ap, ◌∙◌, subst, arith, sum_by, flat_map, length}
use Rattle.std.specs.Prelude.{IsPermutation}
use mathlib.Core.Option.{some, some-injective, some-ne-none}
use lib.ListN.{get_elem?}
use Rattle.std.proofs.lemmas.List.Sums.{sum_by-cons}
use Rattle.std.proofs.lemmas.List.{append-nil, append_assoc, length-append}
use Rattle.std.proofs.lemmas.Grind.{flat_map-append}
use Rattle.std.proofs.lemmas.List.Sorted.{IsPermutation-trans, IsPermutation-append_comm, IsPermutation-append_left, IsPermutation-append_right}
use Rattle.crossbeam_queue.proofs.Lists.{at_set, at_snoc}
use Rattle.let_inbox.specs.Sources.{times}
use Rattle.let_inbox.proofs.Sources.{times-append}

module _ {V : Type 0} where
  pub sum_by_at : (f : V → ℕ) (views : List V) (id : ℕ) (h h' : V) → get_elem? views id ≡ some h → sum_by f (set views id h') + f h ≡ sum_by f views + f h'
  sum_by_at f [] id h h' e = absurd (some-ne-none h (sym e))
  sum_by_at f (x ∷ xs) zero h h' e = let is : f x ≡ f h = ap f (some-injective x h e) in let a = sum_by-cons f x xs in let b = sum_by-cons f h' xs in omega arith
  sum_by_at f (x ∷ xs) (suc id) h h' e = let r = sum_by_at f xs id h h' e in let a = sum_by-cons f x xs in let b = sum_by-cons f x (set xs id h') in omega arith

  pub sum_by_part : (f : V → ℕ) (views : List V) (id : ℕ) (h : V) → get_elem? views id ≡ some h → f h ≤ sum_by f views
  sum_by_part f [] id h e = absurd (some-ne-none h (sym e))
  sum_by_part f (x ∷ xs) zero h e = let is : f x ≡ f h = ap f (some-injective x h e) in let a = sum_by-cons f x xs in omega arith
  sum_by_part f (x ∷ xs) (suc id) h e = let r = sum_by_part f xs id h e in let a = sum_by-cons f x xs in omega arith

  -- two passes' parts are within the sum
  pub sum_by_two : (f : V → ℕ) (views : List V) (id other : ℕ) (h u : V) → id ≢ other → get_elem? views id ≡ some h → get_elem? views other ≡ some u → f h + f u ≤ sum_by f views
  sum_by_two f [] id other h u apart e e' = absurd (some-ne-none h (sym e))
  sum_by_two f (x ∷ xs) zero zero h u apart e e' = absurd (apart refl)
  sum_by_two f (x ∷ xs) zero (suc other) h u apart e e' = let is : f x ≡ f h = ap f (some-injective x h e) in let a = sum_by-cons f x xs in let r = sum_by_part f xs other u e' in omega arith
  sum_by_two f (x ∷ xs) (suc id) zero h u apart e e' = let is : f x ≡ f u = ap f (some-injective x u e') in let a = sum_by-cons f x xs in let r = sum_by_part f xs id h e in omega arith
  sum_by_two f (x ∷ xs) (suc id) (suc other) h u apart e e' = let a = sum_by-cons f x xs in let r = sum_by_two f xs id other h u (λ is. apart (ap suc is)) e e' in omega arith

  abbrev pub Each : (V → Type 0) → List V → Type 0
  Each F views = (id : ℕ) (v : V) → get_elem? views id ≡ some v → F v

  pub each_set : (F : V → Type 0) (views : List V) (id : ℕ) (h : V) → F h → Each F views → Each F (set views id h)
  each_set F views id h mine all j u e = ⊎_elim (λ (x : (j ≡ id) × (h ≡ u)). subst F x.1 mine)
      (λ (x : (j ≢ id) × (get_elem? views j ≡ some u)). all j u x.1) (at_set views id j h u e)

  pub each_snoc : (F : V → Type 0) (views : List V) (h : V) → F h → Each F views → Each F (views ++ h ∷ [])
  each_snoc F views h mine all j u e = ⊎_elim (λ (x : get_elem? views j ≡ some u). all j u x) (λ (is : h ≡ u). subst F is mine) (at_snoc views h u j e)

  pub each_one : (F : V → Type 0) (h : V) → F h → Each F (h ∷ [])
  each_one F h mine zero u e = subst F (some-injective h u e) mine
  each_one F h mine (suc j) u e = absurd (some-ne-none u (sym e))

  pub only_one : (h v : V) (id : ℕ) → get_elem? (h ∷ []) id ≡ some v → id ≡ 0
  only_one h v zero e = refl
  only_one h v (suc id) e = absurd (some-ne-none v (sym e))

  pub set_there : (views : List V) (id : ℕ) (h h' : V) → get_elem? views id ≡ some h → get_elem? (set views id h') id ≡ some h'
  set_there [] id h h' e = absurd (some-ne-none h (sym e))
  set_there (x ∷ xs) zero h h' e = refl
  set_there (x ∷ xs) (suc id) h h' e = set_there xs id h h' e

  module _ {A : Type 0} (f : V → List A) where
    pub flat_map_same : (views : List V) (id : ℕ) (h h' : V) → get_elem? views id ≡ some h → f h' ≡ f h → flat_map f (set views id h') ≡ flat_map f views
    flat_map_same [] id h h' e same = refl
    flat_map_same (x ∷ xs) zero h h' e same = ap (λ ys. ys ++ flat_map f xs) (same ∙ sym (ap f (some-injective x h e)))
    flat_map_same (x ∷ xs) (suc id) h h' e same = ap (λ ys. f x ++ ys) (flat_map_same xs id h h' e same)

    pub flat_map_last : (views : List V) (h : V) → flat_map f (views ++ h ∷ []) ≡ flat_map f views ++ f h
    flat_map_last views h = flat_map-append f views (h ∷ []) ∙ ap (λ ys. flat_map f views ++ ys) (append-nil (f h))

    -- a pass has some elements more
    pub flat_map_gains : (more : List A) (views : List V) (id : ℕ) (h h' : V) → get_elem? views id ≡ some h → IsPermutation (more ++ f h) (f h')
        → IsPermutation (more ++ flat_map f views) (flat_map f (set views id h'))
    flat_map_gains more [] id h h' e gains = absurd (some-ne-none h (sym e))
    flat_map_gains more (y ∷ ys) zero h h' e gains =
        let here : IsPermutation (more ++ f y) (f h') = subst (λ zs. IsPermutation (more ++ zs) (f h')) (sym (ap f (some-injective y h e))) gains in
        subst (λ zs. IsPermutation zs (f h' ++ flat_map f ys)) (append_assoc more (f y) (flat_map f ys)) (IsPermutation-append_left (flat_map f ys) (more ++ f y) (f h') here)
    flat_map_gains more (y ∷ ys) (suc id) h h' e gains =
        let swapped : IsPermutation ((more ++ f y) ++ flat_map f ys) ((f y ++ more) ++ flat_map f ys) = IsPermutation-append_left (flat_map f ys) _ _ (IsPermutation-append_comm more (f y)) in
        let laid : IsPermutation (more ++ (f y ++ flat_map f ys)) (f y ++ (more ++ flat_map f ys)) =
        subst (λ (z : List A × List A). IsPermutation z.0 z.1) (λ i. (append_assoc more (f y) (flat_map f ys) i, append_assoc (f y) more (flat_map f ys) i)) swapped in
        IsPermutation-trans _ (f y ++ (more ++ flat_map f ys)) _ laid (IsPermutation-append_right (f y) _ _ (flat_map_gains more ys id h h' e gains))

    abbrev AreEmpty : List V → Type 0
    AreEmpty views = Each (λ v. f v ≡ []) views

    pub all_empty : (views : List V) → AreEmpty views → flat_map f views ≡ []
    all_empty [] each = refl
    all_empty (x ∷ xs) each = ap (λ ys. ys ++ flat_map f xs) (each zero x refl) ∙ all_empty xs (λ id h e. each (suc id) h e)

    -- where the others have none, one pass has all
    pub all_in_one : (views : List V) (id : ℕ) (h : V) → get_elem? views id ≡ some h → ((j : ℕ) (u : V) → j ≢ id → get_elem? views j ≡ some u → f u ≡ []) → flat_map f views ≡ f h
    all_in_one [] id h e none = absurd (some-ne-none h (sym e))
    all_in_one (x ∷ xs) zero h e none = ap (λ ys. f x ++ ys) (all_empty xs (λ j u e'. none (suc j) u (λ is. omega arith) e')) ∙ append-nil (f x) ∙ ap f (some-injective x h e)
    all_in_one (x ∷ xs) (suc id) h e none = ap (λ ys. ys ++ flat_map f xs) (none zero x (λ is. omega arith) refl) ∙ all_in_one xs id h e (λ j u apart e'. none (suc j) u (λ is. apart (omega arith)) e')

  -- how often a number stands in all, and how many stand there
  pub times_all : (f : V → List ℕ) (x : ℕ) (views : List V) → times x (flat_map f views) ≡ sum_by (λ h. times x (f h)) views
  times_all f x [] = refl
  times_all f x (h ∷ views) = let r = times_all f x views in let a = times-append x (f h) (flat_map f views) in let b = sum_by-cons (λ h. times x (f h)) h views in omega arith

  pub times_at : (f : V → List ℕ) (x : ℕ) (views : List V) (id : ℕ) (h h' : V) → get_elem? views id ≡ some h
      → times x (flat_map f (set views id h')) + times x (f h) ≡ times x (flat_map f views) + times x (f h')
  times_at f x views id h h' e = let a = times_all f x views in let b = times_all f x (set views id h') in let s = sum_by_at (λ h. times x (f h)) views id h h' e in omega arith

  pub times_last : (f : V → List ℕ) (x : ℕ) (views : List V) (h : V) → times x (flat_map f (views ++ h ∷ [])) ≡ times x (flat_map f views) + times x (f h)
  times_last f x views h = ap (times x) (flat_map_last f views h) ∙ times-append x (flat_map f views) (f h)

  pub length_all : (f : V → List ℕ) (views : List V) → length (flat_map f views) ≡ sum_by (λ h. length (f h)) views
  length_all f [] = refl
  length_all f (h ∷ views) = let r = length_all f views in let a = length-append (f h) (flat_map f views) in let b = sum_by-cons (λ h. length (f h)) h views in omega arith

  pub length_at : (f : V → List ℕ) (views : List V) (id : ℕ) (h h' : V) → get_elem? views id ≡ some h
      → length (flat_map f (set views id h')) + length (f h) ≡ length (flat_map f views) + length (f h')
  length_at f views id h h' e = let a = length_all f views in let b = length_all f (set views id h') in let s = sum_by_at (λ h. length (f h)) views id h h' e in omega arith

  pub length_last : (f : V → List ℕ) (views : List V) (h : V) → length (flat_map f (views ++ h ∷ [])) ≡ length (flat_map f views) + length (f h)
  length_last f views h = ap length (flat_map_last f views h) ∙ length-append (flat_map f views) (f h)
