-- A particle among particles by ascending id, found by its id.
use Rattle.std.proofs.Common.{◌≡◌, ℕ, zero, suc, ◌<◌, ◌≤◌, Bool, List, [], ◌∷◌, length, get_or, map, Option, Some, None, Result, Ok, Err, nat_eq, inl, inr, refl, sym, ◌∙◌, ap, arith}
use Rattle.std.specs.Prelude.{MatchResult, find, unwrap_or}
use Rattle.std.specs.List.{Contains, filter}
use Rattle.std.specs.List.Sorted.{IsSearchInRange, IsBinarySearchResult, IsNonDecreasingBy, IsStrictlyIncreasing}
use Rattle.std.specs.Ordering.{nat_cmp, ordering_index}
use Rattle.std.proofs.lemmas.Bool.{cond-true, cond-false, cond_both, cases_lt, eq-eqb, eqb-true, ne_eqb}
use Rattle.std.proofs.lemmas.Bool.Decides.{nat_tests}
use Rattle.std.proofs.lemmas.Cmp.{ranked}
use Rattle.std.proofs.lemmas.List.{length-map, get_or-map, get_or_default}
use Rattle.std.proofs.lemmas.List.Elements.{All-contains, All-contains_itself, All-filter}
use Rattle.std.proofs.lemmas.List.Kept.{AllPairs-from_increasing}
use Rattle.std.proofs.lemmas.List.Sorted.{Contains-permutation}
use Rattle.std.proofs.lemmas.Map.Keys.{IsDistinct-IsPermutation}
use Rattle.pf_model.specs.declared.entry.Entry.TheVariants.{One}
use Rattle.pf_model.specs.Particle.{Particle}
use Rattle.pf_model.specs.Particles.{HaveDistinctIds, HaveSameIds}
use Rattle.model_laws.specs.ReuseLaws.{PresentEntriesAreFound}
use Rattle.pf_model.specs.Reuse.{as_in}

module _ (id : ℕ) (d : Particle) where
  -- the first of this id is found, and none where there is none
  found_at : (xs : List Particle) (k : ℕ) → k < length xs → (get_or xs k d).id ≡ id → ((j : ℕ) → j < k → (get_or xs j d).id ≡ id → ⊥) → find (λ q. nat_eq id q.id) xs ≡ Some (get_or xs k d)
  found_at [] k within same first = absurd (omega arith)
  found_at (x ∷ xs) zero within same first = cond-true (nat_eq id x.id) (Some x) (find (λ (q : Particle). nat_eq id q.id) xs) (eq-eqb id x.id (sym same))
  found_at (x ∷ xs) (suc k) within same first =
      cond-false (nat_eq id x.id) (Some x) (find (λ (q : Particle). nat_eq id q.id) xs) (ne_eqb id x.id (λ e. first 0 (omega arith) (sym e)))
      ∙ found_at xs k (omega arith) same (λ j less. first (suc j) (omega arith))

  found_nowhere : (xs : List Particle) → ((j : ℕ) → j < length xs → (get_or xs j d).id ≡ id → ⊥) → find (λ q. nat_eq id q.id) xs ≡ None
  found_nowhere [] none = refl
  found_nowhere (x ∷ xs) none =
      cond-false (nat_eq id x.id) (Some x) (find (λ (q : Particle). nat_eq id q.id) xs) (ne_eqb id x.id (λ e. none 0 (omega arith) (sym e)))
      ∙ found_nowhere xs (λ j within. none (suc j) (omega arith))

module _ (now : List Particle) (up : IsStrictlyIncreasing (map (λ p. p.id) now)) (p : Particle) where
  ids_rise : (i j : ℕ) (d : Particle) → i < j → j < length now → (get_or now i d).id < (get_or now j d).id
  ids_rise i j d less within =
      let long = length-map now (λ (q : Particle). q.id) in
      let rise = AllPairs-from_increasing (map (λ (q : Particle). q.id) now) up i j 0 less (omega arith) in
      let first = get_or-map (λ (q : Particle). q.id) now i d 0 (omega arith) in
      let second = get_or-map (λ (q : Particle). q.id) now j d 0 within in
      omega arith

  comparisons_rise : (id : ℕ) → IsNonDecreasingBy (λ q. ordering_index (nat_cmp q.id id)) now
  comparisons_rise id i j d le within =
      let ids : (get_or now i d).id ≤ (get_or now j d).id =
      elim (cases_lt i j) [
        | inl less ↦ (let rise = ids_rise i j d less within in omega arith)
        | inr other ↦ (let same : i ≡ j = omega arith in let e = ap (λ k. (get_or now k d).id) same in omega arith)
      ] in
      grind (arith, nat_tests)

  -- a binary search by its id finds it as it is there
  pub searched : (id : ℕ) (r : Result ℕ ℕ) → id ≡ p.id → IsSearchInRange r (length now) → IsBinarySearchResult (λ q. nat_cmp q.id id) now r →
      MatchResult r (λ k. (d : Particle) → get_or now k d ≡ as_in now p) (λ k. p ≡ as_in now p)
  searched id (Ok k) named within equal = λ d.
      (let same : (get_or now k d).id ≡ id = ranked (get_or now k d).id id _ (sym (equal d)) in
      sym (ap (λ (o : Option Particle). unwrap_or o p) (found_at p.id d now k within (same ∙ named) (λ j less e. let rise = ids_rise j k d less within in omega arith))))
  searched id (Err k) named within parted =
      let halves = parted (comparisons_rise id) in
      sym (ap (λ (o : Option Particle). unwrap_or o p) (found_nowhere p.id p now (λ j inside e.
      elim (cases_lt j k) [
        | inl less ↦ (let below : (get_or now j p).id < id = ranked (get_or now j p).id id _ (sym (halves.0 j p (omega arith) less)) in omega arith)
        | inr above ↦ (let over : id < (get_or now j p).id = ranked (get_or now j p).id id _ (sym (halves.1 j p (omega arith) inside)) in omega arith)
      ])))

-- a particle as it is in any list has its id
pub as_in-id : (now : List Particle) (p : Particle) → (as_in now p).id ≡ p.id
as_in-id [] p = refl
as_in-id (q ∷ qs) p =
    cond_both (nat_eq p.id q.id) (Some q) (find (λ (r : Particle). nat_eq p.id r.id) qs) (λ (o : Option Particle). (unwrap_or o p).id ≡ p.id)
    (λ e. sym (eqb-true p.id q.id e)) (λ _. as_in-id qs p)

-- so particles as they are in a list have their ids
pub ids_stay : (now ps : List Particle) → map (λ p. p.id) (map (as_in now) ps) ≡ map (λ p. p.id) ps
ids_stay now [] = refl
ids_stay now (p ∷ ps) = (λ i. as_in-id now p i ∷ ids_stay now ps i)

-- what a filter keeps is in the list
pub from_filter : {X : Type 0} (test : X → Bool) (xs : List X) (x : X) → Contains (filter test xs) x → Contains xs x
from_filter test xs x h = All-contains (Contains xs) (filter test xs) x (All-filter test (Contains xs) xs (All-contains_itself xs)) h

-- what is in a list is mapped into the mapped list
pub contains_mapped : {X Y : Type 0} (f : X → Y) (xs : List X) (x : X) → Contains xs x → Contains (map f xs) (f x)
contains_mapped f xs x (k, within, is) = (k, omega (arith, length-map xs f), get_or-map f xs k x (f x) within ∙ ap f is)

nat_eq_flips : (x y : ℕ) → nat_eq x y ≡ nat_eq y x
nat_eq_flips x y = grind (arith, nat_tests)

same_one : (p q : Particle) → One p ≡ One q → p ≡ q
same_one p q e = cc

-- particles that moved before are where they are now
module _ (law : PresentEntriesAreFound) (js now : List Particle) (distinct : HaveDistinctIds js) (same : HaveSameIds js now) where
  pub now_distinct : HaveDistinctIds now
  now_distinct = IsDistinct-IsPermutation nat_eq nat_eq_flips (map (λ (p : Particle). p.id) js) (map (λ (p : Particle). p.id) now) same distinct

  found_both : (p q : Particle) → Contains js p → q.id ≡ p.id → as_in now q ≡ as_in now p
  found_both p q h e =
      let ids = Contains-permutation (map (λ (x : Particle). x.id) js) (map (λ (x : Particle). x.id) now) p.id same (contains_mapped (λ (x : Particle). x.id) js p h) in
      let k = ids.0 in
      let within : k < length now = omega (arith, ids.1, length-map now (λ (x : Particle). x.id)) in
      let x = get_or now k p in
      let here : Contains now x = (k, within, get_or_default now k x p within) in
      let named : x.id ≡ p.id = sym (get_or-map (λ (x : Particle). x.id) now k p p.id within) ∙ ids.2 in
      same_one (as_in now q) x (law now [] q x now_distinct here (named ∙ sym e)) ∙ sym (same_one (as_in now p) x (law now [] p x now_distinct here named))

  pub moved_twice : (before ps : List Particle) → ((p : Particle) → Contains ps p → Contains js p) → map (as_in now) (map (as_in before) ps) ≡ map (as_in now) ps
  moved_twice before [] among = refl
  moved_twice before (p ∷ ps) among =
      (λ i. found_both p (as_in before p) (among p (0, omega arith, refl)) (as_in-id before p) i
      ∷ moved_twice before ps (λ q h. among q (suc h.0, omega (arith, h.1), h.2)) i)
