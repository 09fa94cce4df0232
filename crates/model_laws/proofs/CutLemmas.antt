-- Cuts: they ascend, and the slabs between them hold runs of coordinates.
use Rattle.std.proofs.Common.{◌≡◌, ℕ, zero, suc, ◌+◌, ◌-◌, ◌*◌, ◌/◌, ◌^◌, ◌<◌, ◌≤◌, cond, List, [], ◌∷◌, length, get_or, inl, inr, refl, ◌∙◌, ap, arith, leb}
use Rattle.std.specs.Prelude.{nat_le}
use Rattle.std.specs.List.{All}
use Rattle.std.specs.List.Sorted.{IsNonDecreasing}
use Rattle.std.proofs.Math.Nat.{div-mul-le_self, mul-le-mul_left}
use Rattle.std.proofs.lemmas.Nat.{le-div}
use Rattle.std.proofs.lemmas.Bool.{cases_lt, cond-true, cond-false, le-leb, lt-leb}
use Rattle.std.proofs.lemmas.List.{get_or_past, get_or-map, length-map}
use Rattle.std.proofs.lemmas.List.Elements.{All-from_get_or, All-get_or, All-map, All-contains}
use Rattle.std.proofs.lemmas.List.FromFn.{length-map-range_with_len, get_or-map-range_with_len}
use Rattle.std.proofs.lemmas.List.Sums.{count_by-le-length, sum_by-cons}
use Rattle.pf_geom.specs.Position.{Position, IsPosition}
use Rattle.order_laws.specs.Order.{in_order_once}
use Rattle.pf_model.specs.Particle.{Particle}
use Rattle.pf_model.specs.Domains.{AreCuts, slab_of, slab_start, slab_end, comes_first, coordinates_of, cut_before, cuts_of}
use Rattle.model_laws.specs.DomainLaws.{CoordinatesAscend}
use Rattle.order_laws.proofs.OrderLemmas.{IsStrict, IsAscending-in_order, in_from_in_order}
use Rattle.order_laws.proofs.ElementLemmas.{in_from_contains, contains_from_in, before_at, all_from_contains, element_at}
use Rattle.pf_model.proofs.EntryLemmas.{pair-irreflexive, pair-transitive, pair_below}

-- an axis, along which every position of the cube has a coordinate
abbrev pub IsAxis : (Position → ℕ) → Type 0
IsAxis along = (p : Position) → IsPosition p → along p < 2 ^ 30

pub comes_first-strict : (along : Position → ℕ) → IsStrict (comes_first along)
comes_first-strict along = record {
  irreflexive = λ p. pair-irreflexive (along p.at) p.id;
  transitive = λ p q r. pair-transitive (along p.at) p.id (along q.at) q.id (along r.at) r.id;
}

-- the coordinates ascend
pub coordinates-rise : CoordinatesAscend
coordinates-rise along js i j d least within =
    let sorted = in_order_once (comes_first along) js in
    let long = length-map sorted (λ (k : Particle). along k.at) in
    elim (cases_lt i j) [
      | inr same ↦ (let e : i ≡ j = omega arith in let same_at = ap (λ (n : ℕ). get_or (coordinates_of along js) n d) e in omega arith)
      | inl less ↦
          let x : Particle = get_or sorted i (element_at sorted j (omega arith)) in
          let y : Particle = get_or sorted j (element_at sorted j (omega arith)) in
          let before = before_at (comes_first along) sorted (IsAscending-in_order (comes_first along) (comes_first-strict along) js) i j (element_at sorted j (omega arith)) less (omega arith) in
          let at_x = get_or-map (λ (k : Particle). along k.at) sorted i (element_at sorted j (omega arith)) d (omega arith) in
          let at_y = get_or-map (λ (k : Particle). along k.at) sorted j (element_at sorted j (omega arith)) d (omega arith) in
          elim (pair_below (along x.at) x.id (along y.at) y.id before) [
            | inl below ↦ omega arith
            | inr tied ↦ (let e = tied.0 in omega arith)
          ]
    ]

coordinates-fit : (along : Position → ℕ) (js : List Particle) → IsAxis along → All (λ j. IsPosition j.at) js → All (λ n. n < 2 ^ 30) (coordinates_of along js)
coordinates-fit along js axis places =
    let sorted = in_order_once (comes_first along) js in
    All-map (λ n. n < 2 ^ 30) (λ (k : Particle). along k.at) sorted
    (all_from_contains (λ (k : Particle). along k.at < 2 ^ 30) sorted
    (λ k h. axis k.at (All-contains (λ (j : Particle). IsPosition j.at) js k places (contains_from_in js k (in_from_in_order (comes_first along) js k (in_from_contains sorted k h))))))

-- a cut is a coordinate, or the side of the cube
cut-fits : (along : Position → ℕ) (js : List Particle) (m k : ℕ) → IsAxis along → All (λ j. IsPosition j.at) js → cut_before along js m k ≤ 2 ^ 30
cut-fits along js m k axis places =
    let coords = coordinates_of along js in
    let place = length js * k / m in
    elim (cases_lt place (length coords)) [
      | inl within ↦ (let fits = All-get_or (λ n. n < 2 ^ 30) coords place (2 ^ 30) within (coordinates-fit along js axis places) in omega arith)
      | inr past ↦ (let e = get_or_past coords place (2 ^ 30) past in omega arith)
    ]

cuts-rise : (along : Position → ℕ) (js : List Particle) (m i j : ℕ) → 0 < m → IsAxis along → All (λ j. IsPosition j.at) js → i ≤ j → cut_before along js m i ≤ cut_before along js m j
cuts-rise along js m i j some axis places order =
    let coords = coordinates_of along js in
    let here = length js * i / m in
    let there = length js * j / m in
    let more : length js * i ≤ length js * j = mul-le-mul_left (length js) order in
    let floor : here * m ≤ length js * i = div-mul-le_self (length js * i) m in
    let later : here ≤ there = le-div here (length js * j) m some (omega arith) in
    elim (cases_lt there (length coords)) [
      | inl within ↦ coordinates-rise along js here there (2 ^ 30) later within
      | inr past ↦ (let e = get_or_past coords there (2 ^ 30) past in let fits = cut-fits along js m i axis places in omega arith)
    ]

pub AreCuts-cuts_of : (along : Position → ℕ) (js : List Particle) (m : ℕ) → IsAxis along → All (λ j. IsPosition j.at) js → AreCuts (m - 1) (cuts_of along js m)
AreCuts-cuts_of along js m axis places =
    let cut = cut_before along js m in
    let long = length-map-range_with_len cut 1 (m - 1) in
    let at : (i d : ℕ) → i < m - 1 → get_or (cuts_of along js m) i d ≡ cut (1 + i) = λ i d within. get_or-map-range_with_len cut 1 (m - 1) i (1 + i) d within refl in
    record {
      counted = long;
      ascending = λ i j d order within.
          (let a = at i d (omega arith) in let b = at j d (omega arith) in let rise = cuts-rise along js m (1 + i) (1 + j) (omega arith) axis places (omega arith) in omega arith);
      inside = All-from_get_or (λ n. n ≤ 2 ^ 30) (cuts_of along js m) 0 (λ i within. let a = at i 0 (omega arith) in let fits = cut-fits along js m (1 + i) axis places in omega arith);
    }

-- the tail of what ascends
rise-tail : (c : ℕ) (cuts : List ℕ) → IsNonDecreasing (c ∷ cuts) → IsNonDecreasing cuts
rise-tail c cuts h i j d order within = h (suc i) (suc j) d (omega arith) (omega arith)

-- one cut more in front
slab-cons : (c : ℕ) (cuts : List ℕ) (n : ℕ) → slab_of (c ∷ cuts) n ≡ cond (leb c n) 1 0 + slab_of cuts n
slab-cons c cuts n = sum_by-cons (λ cut. cond (leb cut n) 1 0) c cuts

counted : (c : ℕ) (cuts : List ℕ) (n : ℕ) → c ≤ n → slab_of (c ∷ cuts) n ≡ 1 + slab_of cuts n
counted c cuts n under = slab-cons c cuts n ∙ ap (λ k. k + slab_of cuts n) (cond-true (leb c n) 1 0 (le-leb c n under))

uncounted : (c : ℕ) (cuts : List ℕ) (n : ℕ) → n < c → slab_of (c ∷ cuts) n ≡ 0 + slab_of cuts n
uncounted c cuts n over = slab-cons c cuts n ∙ ap (λ k. k + slab_of cuts n) (cond-false (leb c n) 1 0 (lt-leb c n over))

none_counted : (n : ℕ) (cuts : List ℕ) → ((i d : ℕ) → i < length cuts → n < get_or cuts i d) → slab_of cuts n ≡ 0
none_counted n [] h = refl
none_counted n (c ∷ cuts) h =
    let over : n < c = h 0 0 (omega arith) in
    let rest = none_counted n cuts (λ i d within. h (suc i) d (omega arith)) in
    let here = uncounted c cuts n over in
    omega arith

none_below : (c : ℕ) (cuts : List ℕ) (n : ℕ) → IsNonDecreasing (c ∷ cuts) → n < c → slab_of (c ∷ cuts) n ≡ 0
none_below c cuts n rise over = none_counted n (c ∷ cuts) (λ k e inside. let up : c ≤ get_or (c ∷ cuts) k e = rise 0 k e (omega arith) inside in omega arith)

-- a cut is at most n exactly where its place is before the slab of n
pub cut_at_most : (cuts : List ℕ) (n i d : ℕ) → IsNonDecreasing cuts → i < length cuts → i < slab_of cuts n → get_or cuts i d ≤ n
cut_at_most [] n i d rise within before = absurd (omega arith)
cut_at_most (c ∷ cuts) n zero d rise within before =
    elim (cases_lt n c) [
      | inl over ↦ absurd (let none = none_below c cuts n rise over in omega arith)
      | inr under ↦ under
    ]
cut_at_most (c ∷ cuts) n (suc i) d rise within before =
    elim (cases_lt n c) [
      | inl over ↦ absurd (let none = none_below c cuts n rise over in omega arith)
      | inr under ↦ cut_at_most cuts n i d (rise-tail c cuts rise) (omega arith) (let more = counted c cuts n under in omega arith)
    ]

pub cut_above : (cuts : List ℕ) (n i d : ℕ) → IsNonDecreasing cuts → i < length cuts → slab_of cuts n ≤ i → n < get_or cuts i d
cut_above [] n i d rise within past = absurd (omega arith)
cut_above (c ∷ cuts) n zero d rise within past =
    elim (cases_lt n c) [
      | inl over ↦ over
      | inr under ↦ absurd (let more = counted c cuts n under in omega arith)
    ]
cut_above (c ∷ cuts) n (suc i) d rise within past =
    elim (cases_lt n c) [
      | inl over ↦ (let up : c ≤ get_or cuts i d = rise 0 (suc i) d (omega arith) within in omega arith)
      | inr under ↦ cut_above cuts n i d (rise-tail c cuts rise) (omega arith) (let more = counted c cuts n under in omega arith)
    ]

-- the coordinates of a slab, of which there is one, are those from its start to its end
pub record IsSlab (cuts : List ℕ) (k n : ℕ) : Type 0 where
  pub after_start : slab_start cuts k ≤ n
  pub before_end : n ≤ slab_end cuts k

start_before : (cuts : List ℕ) (n k : ℕ) → IsNonDecreasing cuts → slab_of cuts n ≡ k → slab_start cuts k ≤ n
start_before cuts n zero rise e = omega arith
start_before cuts n (suc k) rise e =
    let most = count_by-le-length (λ cut. nat_le cut n) cuts in
    cut_at_most cuts n k (2 ^ 30) rise (omega arith) (omega arith)

pub IsSlab-slab_of : (cuts : List ℕ) (n : ℕ) → IsNonDecreasing cuts → n < 2 ^ 30 → IsSlab cuts (slab_of cuts n) n
IsSlab-slab_of cuts n rise fits =
    let k = slab_of cuts n in
    record {
      after_start = start_before cuts n k rise refl;
      before_end =
          elim (cases_lt k (length cuts)) [
            | inl within ↦ (let above = cut_above cuts n k (2 ^ 30) rise within (omega arith) in omega arith)
            | inr past ↦ (let e = get_or_past cuts k (2 ^ 30) past in omega arith)
          ];
    }

not_before : (cuts : List ℕ) (n k : ℕ) → IsNonDecreasing cuts → k ≤ length cuts → slab_start cuts k ≤ n → k ≤ slab_of cuts n
not_before cuts n zero rise within start = omega arith
not_before cuts n (suc k) rise within start =
    elim (cases_lt k (slab_of cuts n)) [
      | inl after ↦ omega arith
      | inr before ↦ absurd (let above = cut_above cuts n k (2 ^ 30) rise (omega arith) before in omega arith)
    ]

pub slab_from_IsSlab : (cuts : List ℕ) (n q : ℕ) → IsNonDecreasing cuts → n < 2 ^ 30 → q < 2 ^ 30 → IsSlab cuts (slab_of cuts q) n → slab_of cuts n ≡ slab_of cuts q
slab_from_IsSlab cuts n q rise fits q_fits h =
    let k = slab_of cuts q in
    let most = count_by-le-length (λ cut. nat_le cut q) cuts in
    let most_n = count_by-le-length (λ cut. nat_le cut n) cuts in
    let low = not_before cuts n k rise (omega arith) h.after_start in
    let end = h.before_end in
    elim (cases_lt k (slab_of cuts n)) [
      | inl past ↦ absurd
          (let at_most = cut_at_most cuts n k (2 ^ 30) rise (omega arith) past in
          let above = cut_above cuts q k (2 ^ 30) rise (omega arith) (omega arith) in
          omega arith)
      | inr here ↦ omega arith
    ]
