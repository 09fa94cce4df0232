-- Particles in the order of (coordinate, id), and the cuts that they make.
use Rattle.std.proofs.Common.{◌≡◌, ℕ, ◌-◌, ◌*◌, ◌/◌, ◌^◌, ◌<◌, Bool, true, false, ◌&&◌, ◌||◌, List, [], ◌∷◌, length, get_or, map, nat_eq, nat_lt, inl, inr, refl, sym, ◌∙◌, ap, subst, arith}
use Rattle.std.specs.List.{range_with_len}
use Rattle.std.specs.List.Sorted.{IsSortedBy, IsNonDecreasing, IsNonDecreasingBy}
use Rattle.std.specs.Cmp.{nat_cmp_is}
use Rattle.std.specs.Ordering.{nat_cmp, ordering_then, is_lt}
use Rattle.std.specs.declared.cmp.Ordering.{Ordering}
use Rattle.std.specs.declared.cmp.Ordering.TheVariants.{Less, Equal}
use Rattle.std.proofs.lemmas.Bool.{cases_order, both_ways, lt-ltb, eq-eqb, or_left, or_right, and_from}
use Rattle.std.proofs.lemmas.Bool.Decides.{Decides-eqb}
use Rattle.std.proofs.lemmas.Cmp.{nat_cmp_total, on_total, then_total}
use Rattle.std.proofs.lemmas.List.{length-map, get_or-map}
use Rattle.std.proofs.lemmas.List.Sorted.{IsPermutation-refl, ranks_by, sorted_far}
use Rattle.std.proofs.lemmas.Map.Made.{AllPairs-from_IsDistinct}
use Rattle.pf_geom.specs.Position.{Position}
use Rattle.pf_geom.specs.declared.axis.Axis.{Axis}
use Rattle.pf_model.specs.Particle.{Particle}
use Rattle.pf_model.specs.Particles.{HaveDistinctIds}
use Rattle.order_laws.specs.Order.{in_order_once}
use Rattle.order_laws.specs.OrderLaws.{MapsKeepOrders}
use Rattle.model_laws.specs.DomainLaws.{CoordinatesAscend, OrdersAlongAreOne}
use Rattle.pf_model.specs.Domains.{comes_first, coordinates_of, cuts_of}
use Rattle.multisection.specs.Sites.{along, IsInOrder}

pub map-map : {X Y Z : Type 0} (f : X → Y) (g : Y → Z) (h : X → Z) → ((x : X) → g (f x) ≡ h x) → (xs : List X) → map g (map f xs) ≡ map h xs
map-map f g h same [] = refl
map-map f g h same (x ∷ xs) = λ i. same x i ∷ map-map f g h same xs i

orders_agree : (a b : Position → ℕ) (f : Particle → Particle) → ((j : Particle) → (f j).id ≡ j.id) → ((j : Particle) → b (f j).at ≡ a j.at) → (p q : Particle) → comes_first b (f p) (f q) ≡ comes_first a p q
orders_agree a b f ids places p q = λ i. nat_lt (places p i) (places q i) || (nat_eq (places p i) (places q i) && nat_lt (ids p i) (ids q i))

-- cuts come from coordinates and ids alone
pub cuts_of-map : MapsKeepOrders Particle Particle → (a b : Position → ℕ) (f : Particle → Particle) → ((j : Particle) → (f j).id ≡ j.id) → ((j : Particle) → b (f j).at ≡ a j.at) → (js : List Particle) (m : ℕ) → cuts_of b (map f js) m ≡ cuts_of a js m
cuts_of-map keep a b f ids places js m =
    let coords : coordinates_of b (map f js) ≡ coordinates_of a js =
    ap (map (λ (j : Particle). b j.at)) (keep f (comes_first a) (comes_first b) js (orders_agree a b f ids places))
    ∙ map-map f (λ (j : Particle). b j.at) (λ (j : Particle). a j.at) places (in_order_once (comes_first a) js) in
    let long = length-map js f in
    λ i. map (λ k. get_or (coords i) (long i * k / m) (2 ^ 30)) (range_with_len 1 (m - 1))

pub ids_kept : (f : Particle → Particle) → ((j : Particle) → (f j).id ≡ j.id) → (js : List Particle) → map (λ (j : Particle). j.id) (map f js) ≡ map (λ (j : Particle). j.id) js
ids_kept f ids js = map-map f (λ (j : Particle). j.id) (λ (j : Particle). j.id) ids js

-- what a sort by (coordinate, id) leaves
abbrev pub is_less : Axis → Particle → Particle → Bool
is_less axis i j = is_lt (ordering_then (nat_cmp (along axis i.at) (along axis j.at)) (nat_cmp i.id j.id))

ids_differ : (js : List Particle) → HaveDistinctIds js → (i j : ℕ) (d : Particle) → i < j → j < length js → (get_or js i d).id ≡ (get_or js j d).id → ⊥
ids_differ js distinct i j d less within same =
    let ids : List ℕ = map (λ p. p.id) js in
    AllPairs-from_IsDistinct Decides-eqb ids distinct i j 0 less (rw length-map within)
    (get_or-map (λ (p : Particle). p.id) js i d 0 (omega arith) ∙ same ∙ sym (get_or-map (λ (p : Particle). p.id) js j d 0 within))

first_from_not_less : (axis : Axis) (i j : Particle) → is_less axis j i ≡ false → (i.id ≡ j.id → ⊥) → comes_first (along axis) i j ≡ true
first_from_not_less axis i j not_less differ =
    let a = along axis i.at in
    let b = along axis j.at in
    elim (cases_order a b) [
      | inl same ↦ elim (cases_order i.id j.id) [
        | inl e ↦ absurd (differ e)
        | inr h ↦ elim h [
          | inl less ↦ or_right _ _ (and_from _ _ (eq-eqb _ _ same) (lt-ltb _ _ less))
          | inr more ↦
              let ids : is_less axis j i ≡ true =
              ap (λ (o : Ordering). is_lt (ordering_then o (nat_cmp j.id i.id))) (sym (nat_cmp_is b a Equal (sym same))) ∙ ap is_lt (sym (nat_cmp_is j.id i.id Less more)) in
              absurd (both_ways (is_less axis j i) not_less ids)
        ]
      ]
      | inr h ↦ elim h [
        | inl less ↦ or_left _ _ (lt-ltb _ _ less)
        | inr more ↦
            let lower : is_less axis j i ≡ true = ap (λ (o : Ordering). is_lt (ordering_then o (nat_cmp j.id i.id))) (sym (nat_cmp_is b a Less more)) in
            absurd (both_ways (is_less axis j i) not_less lower)
      ]
    ]

pub in_order_from_sort : (axis : Axis) (js : List Particle) → HaveDistinctIds js → IsSortedBy (is_less axis) js → IsInOrder axis js
in_order_from_sort axis js distinct sorted i j d less within =
    let order = then_total (on_total (λ (p : Particle). along axis p.at) nat_cmp_total) (on_total (λ (p : Particle). p.id) nat_cmp_total) in
    let far = sorted_far (is_less axis) (ranks_by order (λ (p : Particle). p)) js sorted i j d (omega arith) within in
    first_from_not_less axis (get_or js i d) (get_or js j d) far (ids_differ js distinct i j d less within)

-- the coordinates ascend
pub coordinates_ascend : CoordinatesAscend → OrdersAlongAreOne → (axis : Axis) (js : List Particle) → IsInOrder axis js → IsNonDecreasingBy (λ j. along axis j.at) js
coordinates_ascend ascend one axis js ordered i j d least within =
    let place = λ (j : Particle). along axis j.at in
    let long = length-map js place in
    let up = subst (λ (ks : List Particle). IsNonDecreasing (map place ks)) (one (along axis) js js (IsPermutation-refl js) ordered) (ascend (along axis) js) in
    let here = get_or-map place js i d 0 (omega arith) in
    let there = get_or-map place js j d 0 within in
    let below = up i j 0 least (omega arith) in
    omega arith
