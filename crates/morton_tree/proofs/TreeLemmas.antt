-- Particles in key order.
use Rattle.std.proofs.Common.{◌≡◌, ℕ, ◌+◌, ◌<◌, ◌≤◌, Bool, true, false, List, length, get_or, map, take, nat_eq, inl, inr, refl, sym, ◌∙◌, ap, arith}
use Rattle.std.specs.List.Sorted.{IsPermutation, IsSortedBy, IsNonDecreasingBy}
use Rattle.std.specs.Cmp.{nat_cmp_is}
use Rattle.std.specs.Ordering.{nat_cmp, ordering_then, is_lt}
use Rattle.std.specs.declared.cmp.Ordering.{Ordering}
use Rattle.std.specs.declared.cmp.Ordering.TheVariants.{Less, Equal}
use Rattle.std.proofs.lemmas.Bool.{cases_lt, cases_order, both_ways, ltb-true, lt-ltb, eqb-true, eq-eqb, or_cases, or_left, or_right, and_parts, and_from}
use Rattle.std.proofs.lemmas.Bool.Decides.{Decides-eqb, nat_tests}
use Rattle.std.proofs.lemmas.Cmp.{nat_cmp_total, on_total, then_total}
use Rattle.std.proofs.lemmas.List.{length-map, get_or-map}
use Rattle.std.proofs.lemmas.List.Sorted.{ranks_by, sorted_far, length_permutation, IsPermutation-map}
use Rattle.std.proofs.lemmas.List.FromFn.{length-map-range_with_len}
use Rattle.std.proofs.lemmas.Map.Keys.{IsDistinct-IsPermutation}
use Rattle.std.proofs.lemmas.Map.Made.{AllPairs-from_IsDistinct}
use Rattle.pf_geom.specs.Key.{morton_key}
use Rattle.pf_model.specs.Particle.{Particle}
use Rattle.pf_model.specs.Particles.{HaveDistinctIds, AreBodies}
use Rattle.pf_model.specs.Domains.{comes_first}
use Rattle.pf_model.specs.Sums.{moment_of}
use Rattle.moments.specs.Prefix.{prefix_moments}
use Rattle.morton_tree.specs.Tree.{Octree, IsInKeyOrder, IsOctree, unmoved_tree}

abbrev key_of : Particle → ℕ
key_of j = morton_key j.at

-- in the order that the sort goes by, the first is less than the second
abbrev pub is_less : Particle → Particle → Bool
is_less i j = is_lt (ordering_then (nat_cmp (key_of i) (key_of j)) (nat_cmp i.id j.id))

ids_differ : (js : List Particle) → HaveDistinctIds js → (i j : ℕ) (d : Particle) → i < j → j < length js → (get_or js i d).id ≡ (get_or js j d).id → ⊥
ids_differ js distinct i j d less within same =
    let ids : List ℕ = map (λ p. p.id) js in
    AllPairs-from_IsDistinct Decides-eqb ids distinct i j 0 less (rw length-map within)
    (get_or-map (λ (p : Particle). p.id) js i d 0 (omega arith) ∙ same ∙ sym (get_or-map (λ (p : Particle). p.id) js j d 0 within))

less_key : (i j : Particle) → key_of i < key_of j → is_less i j ≡ true
less_key i j less = ap (λ (o : Ordering). is_lt (ordering_then o (nat_cmp i.id j.id))) (sym (nat_cmp_is (key_of i) (key_of j) Less less))

less_id : (i j : Particle) → key_of i ≡ key_of j → i.id < j.id → is_less i j ≡ true
less_id i j same less =
    ap (λ (o : Ordering). is_lt (ordering_then o (nat_cmp i.id j.id))) (sym (nat_cmp_is (key_of i) (key_of j) Equal same))
    ∙ ap is_lt (sym (nat_cmp_is i.id j.id Less less))

first_from_not_less : (i j : Particle) → is_less j i ≡ false → (i.id ≡ j.id → ⊥) → comes_first morton_key i j ≡ true
first_from_not_less i j not_less differ =
    elim (cases_order (key_of i) (key_of j)) [
      | inl same ↦ elim (cases_order i.id j.id) [
        | inl e ↦ absurd (differ e)
        | inr h ↦ elim h [
          | inl less ↦ or_right _ _ (and_from _ _ (eq-eqb _ _ same) (lt-ltb _ _ less))
          | inr more ↦ absurd (both_ways (is_less j i) not_less (less_id j i (sym same) more))
        ]
      ]
      | inr h ↦ elim h [
        | inl less ↦ or_left _ _ (lt-ltb _ _ less)
        | inr more ↦ absurd (both_ways (is_less j i) not_less (less_key j i more))
      ]
    ]

-- what the sort leaves is in key order
in_order_from_sort : (js : List Particle) → HaveDistinctIds js → IsSortedBy is_less js → IsInKeyOrder js
in_order_from_sort js distinct sorted i j d less within =
    let order = then_total (on_total key_of nat_cmp_total) (on_total (λ (p : Particle). p.id) nat_cmp_total) in
    let far = sorted_far is_less (ranks_by order (λ (p : Particle). p)) js sorted i j d (omega arith) within in
    first_from_not_less (get_or js i d) (get_or js j d) far (ids_differ js distinct i j d less within)

nat_eq_flips : (x y : ℕ) → nat_eq x y ≡ nat_eq y x
nat_eq_flips x y = grind (arith, nat_tests)

pub octree_from_sort : (js ks : List Particle) → AreBodies js → IsPermutation js ks → IsSortedBy is_less ks → IsOctree (unmoved_tree ks)
octree_from_sort js ks bodies same sorted =
    let few = bodies.few in
    let long = length_permutation js ks same in
    let apart : HaveDistinctIds ks = IsDistinct-IsPermutation nat_eq nat_eq_flips _ _ (IsPermutation-map (λ p. p.id) js ks same) bodies.distinct in
    record { are_bodies = record { few = omega arith; distinct = apart }; ordered = in_order_from_sort ks apart sorted; same_ids = refl }

-- as many particles as at the build
pub same_length : (t : Octree) → IsOctree t → length t.bodies ≡ length t.built
same_length t h = simp length-map at (ap length h.same_ids)

pub prefix_length : (js : List Particle) → length (prefix_moments js) ≡ length js + 1
prefix_length js = length-map-range_with_len (λ k. moment_of (take k js)) 0 (length js + 1)

keys_rise : (i j : Particle) → comes_first morton_key i j ≡ true → key_of i ≤ key_of j
keys_rise i j e =
    elim (or_cases _ _ e) [
      | inl h ↦ (let less = ltb-true (key_of i) (key_of j) h in omega arith)
      | inr h ↦ (let same = eqb-true (key_of i) (key_of j) (and_parts _ _ h).0 in omega arith)
    ]

pub keys_ascend : (js : List Particle) → IsInKeyOrder js → IsNonDecreasingBy key_of js
keys_ascend js ordered i j d least within =
    elim (cases_lt i j) [
      | inl less ↦ keys_rise (get_or js i d) (get_or js j d) (ordered i j d less within)
      | inr more ↦ (let same : i ≡ j = omega arith in let e = ap (λ (k : ℕ). key_of (get_or js k d)) same in omega arith)
    ]
