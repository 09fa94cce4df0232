-- Particles in the order of their ids.
use Rattle.std.proofs.Common.{◌≡◌, ◌+◌, ◌<◌, Bool, false, List, [], ◌∷◌, length, get_or, map, inl, inr, refl, arith}
use Rattle.std.specs.List.{AllByRecursion, IsDistinct, Contains}
use Rattle.std.specs.List.Sorted.{IsPermutation}
use Rattle.std.specs.Prelude.{◌↔◌, nat_eq, nat_lt}
use Rattle.std.proofs.lemmas.Bool.{cond_both, ltb-true, ltb-false, lt-ltb, ne_eqb}
use Rattle.std.proofs.lemmas.List.Sorted.{IsPermutation-refl, IsPermutation-cons, IsPermutation-trans, IsPermutation-sym, Contains-permutation}
use Rattle.std.proofs.lemmas.List.{length-map, get_or-map}
use Rattle.std.proofs.lemmas.List.Kept.{AllPairs-from_increasing, AllPairs-filter}
use Rattle.order_laws.specs.Order.{placed}
use Rattle.pf_model.specs.Particle.{Particle}
use Rattle.pf_model.specs.Particles.{HaveDistinctIds, AreInIdOrder, by_id}
use Rattle.model_laws.specs.IdLaws.{OrdersByIdHaveAll, OrdersByIdAscend, AscendingIsById, AscendingIdsDiffer, AscendingIdsIncrease, SomeIdsAscendToo}
use Rattle.order_laws.proofs.OrderLemmas.{In, IsStrict, IsConnected, BeforeAll, IsAscending, IsAscending-in_order, in_from_in_order, in_order_from_in, same_ascending}
use Rattle.order_laws.proofs.ElementLemmas.{in_from_contains, contains_from_in, before_at, ascending_from_pairs, element_at}
use Rattle.order_laws.proofs.PermutationLemmas.{turned}
use Rattle.pf_model.proofs.EntryLemmas.{same_from_id, ids_differ}
use Rattle.model_laws.proofs.ReuseLemmas.{distinct_ids_ignore_order}

abbrev has_lower_id : Particle → Particle → Bool
has_lower_id p q = nat_lt p.id q.id

strict : IsStrict has_lower_id
strict = record {
  irreflexive = λ p e. (let h = ltb-true p.id p.id e in absurd (omega arith));
  transitive = λ p q r e f. (let g = ltb-true p.id q.id e in let h = ltb-true q.id r.id f in lt-ltb p.id r.id (omega arith));
}

connected : (js : List Particle) → HaveDistinctIds js → IsConnected has_lower_id js
connected js distinct p q i k e f =
    let g = ltb-false p.id q.id e in
    let h = ltb-false q.id p.id f in
    same_from_id js distinct q p k i (omega arith)

moved : (js ks : List Particle) → IsPermutation js ks → (p : Particle) → In p js → In p ks
moved js ks h p i = in_from_contains ks p (Contains-permutation js ks p h (contains_from_in js p i))

pub by_id-same : (js ks : List Particle) → HaveDistinctIds js → IsPermutation js ks → by_id js ≡ by_id ks
by_id-same js ks distinct h =
    let back = IsPermutation-sym js ks h in
    let of_js = connected js distinct in
    let of_ks : IsConnected has_lower_id ks = λ p q i k. of_js p q (moved ks js back p i) (moved ks js back q k) in
    same_ascending has_lower_id strict (by_id js) (by_id ks) (IsAscending-in_order has_lower_id strict js) (IsAscending-in_order has_lower_id strict ks)
    (λ p i. in_order_from_in has_lower_id ks of_ks p (moved js ks h p (in_from_in_order has_lower_id js p i)))
    (λ p i. in_order_from_in has_lower_id js of_js p (moved ks js back p (in_from_in_order has_lower_id ks p i)))

pub by_id-has : (js : List Particle) (p : Particle) → HaveDistinctIds js → Contains (by_id js) p ↔ Contains js p
by_id-has js p distinct = (
  λ c. contains_from_in js p (in_from_in_order has_lower_id js p (in_from_contains (by_id js) p c)),
  λ c. contains_from_in (by_id js) p (in_order_from_in has_lower_id js (connected js distinct) p (in_from_contains js p c)),
)

lower_than_all : (p : Particle) (qs : List Particle) → BeforeAll has_lower_id p qs → AllByRecursion (λ id. nat_eq p.id id ≡ false) (map (λ q. q.id) qs)
lower_than_all p [] b = tt
lower_than_all p (q ∷ qs) b = (let h = ltb-true p.id q.id b.0 in ne_eqb p.id q.id (λ e. omega arith), lower_than_all p qs b.1)

ascending_differ : (qs : List Particle) → IsAscending has_lower_id qs → HaveDistinctIds qs
unfolding IsDistinct
ascending_differ [] a = tt
ascending_differ (q ∷ qs) a = (lower_than_all q qs a.0, ascending_differ qs a.1)

pub by_id-distinct : (js : List Particle) → HaveDistinctIds (by_id js)
by_id-distinct js = ascending_differ (by_id js) (IsAscending-in_order has_lower_id strict js)

-- ---- particles whose ids ascend

ascends : (js : List Particle) → AreInIdOrder js → IsAscending has_lower_id js
ascends js up = ascending_from_pairs has_lower_id js (λ i j d less within. lt-ltb (get_or js i d).id (get_or js j d).id (up i j d less within))

in_id_order : (js : List Particle) → IsAscending has_lower_id js → AreInIdOrder js
in_id_order js a i j d less within = ltb-true (get_or js i d).id (get_or js j d).id (before_at has_lower_id js a i j d less within)

pub orders_by_id_ascend : OrdersByIdAscend
orders_by_id_ascend js = in_id_order (by_id js) (IsAscending-in_order has_lower_id strict js)

pub ascending_ids_differ : AscendingIdsDiffer
ascending_ids_differ js up = ascending_differ js (ascends js up)

pub ascending_is_by_id : AscendingIsById
ascending_is_by_id js ps h up =
    let back = IsPermutation-sym js ps h in
    let distinct = distinct_ids_ignore_order ps js back (ascending_ids_differ ps up) in
    same_ascending has_lower_id strict (by_id js) ps (IsAscending-in_order has_lower_id strict js) (ascends ps up)
    (λ p i. moved js ps h p (in_from_in_order has_lower_id js p i))
    (λ p i. in_order_from_in has_lower_id js (connected js distinct) p (moved ps js back p i))

-- what is placed among others is one more of them, unless one of them has its id
placed_permutes : (j : Particle) (ks : List Particle) → ((k : Particle) → In k ks → j.id ≡ k.id → ⊥) → IsPermutation (j ∷ ks) (placed has_lower_id j ks)
placed_permutes j [] apart = IsPermutation-refl (j ∷ [])
placed_permutes j (k ∷ ks) apart =
    let P : List Particle → Type 0 = IsPermutation (j ∷ k ∷ ks) in
    cond_both (has_lower_id j k) _ _ P (λ _. IsPermutation-refl (j ∷ k ∷ ks)) (λ not_j.
    cond_both (has_lower_id k j) _ _ P
    (λ _. IsPermutation-trans (j ∷ k ∷ ks) (k ∷ j ∷ ks) (k ∷ placed has_lower_id j ks) (turned j k ks)
    (IsPermutation-cons k (j ∷ ks) (placed has_lower_id j ks) (placed_permutes j ks (λ q i. apart q (inr i)))))
    (λ not_k. absurd (let low = ltb-false j.id k.id not_j in let high = ltb-false k.id j.id not_k in apart k (inl refl) (omega arith))))

pub orders_by_id_have_all : OrdersByIdHaveAll
unfolding IsDistinct
orders_by_id_have_all [] distinct = IsPermutation-refl []
orders_by_id_have_all (j ∷ js) distinct =
    IsPermutation-trans (j ∷ js) (j ∷ by_id js) (by_id (j ∷ js))
    (IsPermutation-cons j js (by_id js) (orders_by_id_have_all js distinct.1))
    (placed_permutes j (by_id js) (λ k i. ids_differ j js k (in_from_in_order has_lower_id js k i) distinct.0))

pub ascending_ids_increase : AscendingIdsIncrease
ascending_ids_increase js =
    let id = λ (j : Particle). j.id in
    let long = length-map js id in (
      λ up k within.
          (let below : k + 1 < length js = omega arith in
          let x = element_at js (k + 1) below in
          let less = up k (k + 1) x (omega arith) below in
          let here = get_or-map id js k x 0 (omega arith) in
          let next = get_or-map id js (k + 1) x 0 below in
          omega arith),
      λ h i j d less within.
          (let up = AllPairs-from_increasing (map id js) h i j 0 less (omega arith) in
          let here = get_or-map id js i d 0 (omega arith) in
          let there = get_or-map id js j d 0 within in
          omega arith),
    )

pub some_ids_ascend_too : SomeIdsAscendToo
some_ids_ascend_too test js up = AllPairs-filter (λ (i j : Particle). i.id < j.id) test js up
