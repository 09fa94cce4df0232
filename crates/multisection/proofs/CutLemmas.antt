-- Cuts that are read off particles in order, and those of slabs and columns.
use Rattle.std.proofs.Common.{◌≡◌, ℕ, zero, suc, ◌+◌, ◌-◌, ◌*◌, ◌/◌, ◌^◌, ◌<◌, ◌≤◌, List, [], ◌∷◌, ◌++◌, length, get_or, map, nat_eq, inl, inr, refl, sym, ◌∙◌, ap, subst, arith}
use Rattle.std.specs.List.{filter, flat_map, range_with_len}
use Rattle.std.specs.List.Sorted.{IsPermutation, IsNonDecreasing, IsNonDecreasingBy}
use Rattle.std.proofs.Math.Nat.{div-mul-le_self, mul-le-mul_left}
use Rattle.std.proofs.lemmas.Nat.{le-div, div_below}
use Rattle.std.proofs.lemmas.Bool.{cases_lt}
use Rattle.std.proofs.lemmas.List.{append_assoc, append-nil, length-map, get_or-map, get_or_past}
use Rattle.std.proofs.lemmas.List.FromFn.{map-range_with_len_more, length-map-range_with_len, get_or-map-range_with_len}
use Rattle.std.proofs.lemmas.List.Sorted.{length_permutation}
use Rattle.pf_geom.specs.declared.axis.Axis.{Axis}
use Rattle.pf_geom.specs.declared.axis.Axis.TheVariants.{X, Y, Z}
use Rattle.pf_model.specs.Particle.{Particle}
use Rattle.pf_model.specs.Particles.{HaveDistinctIds, AreBodies}
use Rattle.model_laws.specs.ParticleLaws.{DistinctIdsIgnoreOrder, SomeHaveDistinctIds}
use Rattle.pf_model.specs.Division.{Division}
use Rattle.pf_model.specs.Domains.{slab_of, cuts_of, y_cuts, z_cuts, cuts_for}
use Rattle.model_laws.specs.DomainLaws.{OrdersAlongAreOne, CutsAlongIgnoreOrder}
use Rattle.order_laws.specs.OrderLaws.{MapsKeepOrders, TestsKeepPermutations}
use Rattle.multisection.specs.Sites.{site_of, along, IsInOrder, in_slab_along, column_cuts}
use Rattle.multisection.proofs.OrderLemmas.{cuts_of-map, ids_kept}
use Rattle.multisection.proofs.RunLemmas.{slab_at, filter-map}

-- the element at a place of a list
element_at : (js : List Particle) (i : ℕ) → i < length js → Particle
element_at [] i within = absurd (omega arith)
element_at (j ∷ js) i within = j

-- the coordinate at the place of a cut
abbrev pub cut_in : Axis → List Particle → ℕ → ℕ → ℕ
cut_in axis js m k = get_or (map (λ (j : Particle). along axis j.at) js) (length js * k / m) (2 ^ 30)

-- the cuts of particles are read off them when they stand in order
pub cuts_read : OrdersAlongAreOne → (axis : Axis) (js ks : List Particle) (m : ℕ) → IsPermutation js ks → IsInOrder axis ks → map (cut_in axis ks m) (range_with_len 1 (m - 1)) ≡ cuts_of (along axis) js m
cuts_read law axis js ks m same ordered =
    let sorted = law (along axis) js ks same ordered in
    let long = sym (length_permutation js ks same) in
    sym (λ i. map (λ k. get_or (map (λ (j : Particle). along axis j.at) (sorted i)) (long i * k / m) (2 ^ 30)) (range_with_len 1 (m - 1)))

pub cuts_more : (axis : Axis) (js : List Particle) (m k : ℕ) (before after : List ℕ) (cut : ℕ) → 1 ≤ k → before ≡ map (cut_in axis js m) (range_with_len 1 (k - 1)) → cut ≡ cut_in axis js m k → after ≡ before ++ cut ∷ [] → after ≡ map (cut_in axis js m) (range_with_len 1 (k + 1 - 1))
cuts_more axis js m k before after cut some are is pushed =
    let one_more : k - 1 + 1 ≡ k + 1 - 1 = omega arith in
    pushed ∙ (λ i. are i ++ is i ∷ []) ∙ sym (map-range_with_len_more (cut_in axis js m) 1 (k - 1) k (omega arith)) ∙ ap (λ (n : ℕ). map (cut_in axis js m) (range_with_len 1 n)) one_more

-- they ascend
place_within : (n m k : ℕ) → k < m → 0 < n → n * k / m < n
place_within n m k less some = (let more : n * suc k ≤ n * m = mul-le-mul_left n less in div_below (n * k) m n (omega arith) (omega arith))

cut_rises : (axis : Axis) (js : List Particle) (m i j : ℕ) → IsNonDecreasingBy (λ j. along axis j.at) js → i ≤ j → j < m → cut_in axis js m i ≤ cut_in axis js m j
cut_rises axis js m i j rise order within =
    let n = length js in
    let coords = map (λ (k : Particle). along axis k.at) js in
    let long = length-map js (λ (k : Particle). along axis k.at) in
    let floor : n * i / m * m ≤ n * i = div-mul-le_self (n * i) m in
    let more : n * i ≤ n * j = mul-le-mul_left n order in
    let later : n * i / m ≤ n * j / m = le-div (n * i / m) (n * j) m (omega arith) (omega arith) in
    elim (cases_lt 0 n) [
      | inl some ↦
          let inside : n * j / m < n = place_within n m j within some in
          let d = element_at js (n * j / m) inside in
          let low = get_or-map (λ (k : Particle). along axis k.at) js (n * i / m) d (2 ^ 30) (omega arith) in
          let high = get_or-map (λ (k : Particle). along axis k.at) js (n * j / m) d (2 ^ 30) inside in
          let up = rise (n * i / m) (n * j / m) d later inside in
          omega arith
      | inr none ↦
          let low = get_or_past coords (n * i / m) (2 ^ 30) (omega arith) in
          let high = get_or_past coords (n * j / m) (2 ^ 30) (omega arith) in
          omega arith
    ]

pub cuts_rise : (axis : Axis) (js : List Particle) (m : ℕ) → IsNonDecreasingBy (λ j. along axis j.at) js → IsNonDecreasing (map (cut_in axis js m) (range_with_len 1 (m - 1)))
cuts_rise axis js m rise i j d order within =
    let cut = cut_in axis js m in
    let long = length-map-range_with_len cut 1 (m - 1) in
    let low : get_or (map cut (range_with_len 1 (m - 1))) i d ≡ cut (1 + i) = get_or-map-range_with_len cut 1 (m - 1) i (1 + i) d (omega arith) refl in
    let high : get_or (map cut (range_with_len 1 (m - 1))) j d ≡ cut (1 + j) = get_or-map-range_with_len cut 1 (m - 1) j (1 + j) d (omega arith) refl in
    let up : cut (1 + i) ≤ cut (1 + j) = cut_rises axis js m (1 + i) (1 + j) rise (omega arith) (omega arith) in
    omega arith

-- one piece more
joined_next : {E : Type 0} (f : ℕ → List E) (a n : ℕ) → flat_map f (range_with_len a (suc n)) ≡ flat_map f (range_with_len a n) ++ f (a + n)
joined_next f a zero = append-nil (f a) ∙ ap f (let e : a ≡ a + 0 = omega arith in e)
joined_next f a (suc n) =
    let far : a + 1 + n ≡ a + suc n = omega arith in
    ap (λ l. f a ++ l) (joined_next f (a + 1) n ∙ (λ i. flat_map f (range_with_len (a + 1) n) ++ f (far i)))
    ∙ sym (append_assoc (f a) (flat_map f (range_with_len (a + 1) n)) (f (a + suc n)))

pub joined_more : {E : Type 0} (f : ℕ → List E) (n : ℕ) (before after piece : List E) → before ≡ flat_map f (range_with_len 0 n) → piece ≡ f n → after ≡ before ++ piece → after ≡ flat_map f (range_with_len 0 (n + 1))
joined_more f n before after piece were is joined =
    let next : suc n ≡ n + 1 = omega arith in
    let here : n ≡ 0 + n = omega arith in
    joined ∙ (λ i. were i ++ is i) ∙ (λ i. flat_map f (range_with_len 0 n) ++ f (here i)) ∙ sym (joined_next f 0 n) ∙ ap (λ (k : ℕ). flat_map f (range_with_len 0 k)) next

-- the particles that lie in one column of a slab
abbrev pub in_column_of : Division → List Particle → ℕ → List Particle
in_column_of g js iy = in_slab_along Y (cuts_of (along Y) js g.ny) js iy

-- what the run of a slab is
pub record IsRun (js run : List Particle) : Type 0 where
  pub same : IsPermutation js run
  pub distinct : HaveDistinctIds js
  pub distinct_run : HaveDistinctIds run
  pub few : length run ≤ length js

pub run_of_slab : DistinctIdsIgnoreOrder → SomeHaveDistinctIds → TestsKeepPermutations Particle → (axis : Axis) (cuts : List ℕ) (js sorted run : List Particle) (k : ℕ) → HaveDistinctIds js → IsPermutation js sorted → run ≡ in_slab_along axis cuts sorted k → IsRun (in_slab_along axis cuts js k) run
run_of_slab ignore some tests axis cuts js sorted run k distinct same is =
    let slab = λ (j : Particle). nat_eq (slab_at axis cuts j) k in
    let kept : IsPermutation (filter slab js) run = subst (IsPermutation (filter slab js)) (sym is) (tests slab js sorted same) in
    let apart = some slab js distinct in
    let long = length_permutation (filter slab js) run kept in
    record { same = kept; distinct = apart; distinct_run = ignore (filter slab js) run kept apart; few = omega arith }

-- the columns of a slab ignore the order of its particles
pub column_cuts-same : CutsAlongIgnoreOrder → SomeHaveDistinctIds → TestsKeepPermutations Particle → (g : Division) (js ks : List Particle) → HaveDistinctIds js → IsPermutation js ks → column_cuts g js ≡ column_cuts g ks
column_cuts-same law some tests g js ks distinct same =
    let own = law (along Y) js ks g.ny distinct same in
    let column = λ (iy : ℕ).
    let in_column = λ (j : Particle). nat_eq (slab_of (cuts_of (along Y) js g.ny) j.at.y) iy in
    let there : filter in_column ks ≡ in_column_of g ks iy = ap (λ (cuts : List ℕ). filter (λ j. nat_eq (slab_of cuts j.at.y) iy) ks) own in
    let cuts : cuts_of (along Z) (in_column_of g js iy) g.nz ≡ cuts_of (along Z) (in_column_of g ks iy) g.nz =
    law (along Z) (filter in_column js) (filter in_column ks) g.nz (some in_column js distinct) (tests in_column js ks same) ∙ ap (λ (l : List Particle). cuts_of (along Z) l g.nz) there in
    cuts in
    λ i. flat_map (λ iy. column iy i) (range_with_len 0 g.ny)

-- particles and their sites make the same cuts
pub cuts_of-sites : MapsKeepOrders Particle Particle → (axis : Axis) (js : List Particle) (m : ℕ) → cuts_of (along axis) (map site_of js) m ≡ cuts_of (along axis) js m
cuts_of-sites keep axis js m = cuts_of-map keep (along axis) (along axis) site_of (λ j. refl) (λ j. refl) js m

pub in_slab_along-sites : (axis : Axis) (cuts : List ℕ) (js : List Particle) (k : ℕ) → in_slab_along axis cuts (map site_of js) k ≡ map site_of (in_slab_along axis cuts js k)
in_slab_along-sites axis cuts js k = filter-map site_of (λ (j : Particle). nat_eq (slab_at axis cuts j) k) (λ (j : Particle). nat_eq (slab_at axis cuts j) k) (λ j. refl) js

pub column_cuts-sites : MapsKeepOrders Particle Particle → (g : Division) (js : List Particle) → column_cuts g (map site_of js) ≡ column_cuts g js
column_cuts-sites keep g js =
    let own = cuts_of-sites keep Y js g.ny in
    let column = λ (iy : ℕ).
    let cuts : cuts_of (along Z) (in_column_of g (map site_of js) iy) g.nz ≡ cuts_of (along Z) (in_column_of g js iy) g.nz =
    ap (λ (l : List ℕ). cuts_of (along Z) (in_slab_along Y l (map site_of js) iy) g.nz) own
    ∙ ap (λ (l : List Particle). cuts_of (along Z) l g.nz) (in_slab_along-sites Y (cuts_of (along Y) js g.ny) js iy)
    ∙ cuts_of-sites keep Z (in_column_of g js iy) g.nz in
    cuts in
    λ i. flat_map (λ iy. column iy i) (range_with_len 0 g.ny)

-- the cuts that particles make, piece by piece
pub cuts_from_pieces : (g : Division) (js : List Particle) (x y z : List ℕ) → x ≡ cuts_of (along X) js g.nx →
    y ≡ flat_map (λ k. cuts_of (along Y) (in_slab_along X x js k) g.ny) (range_with_len 0 g.nx) →
    z ≡ flat_map (λ k. column_cuts g (in_slab_along X x js k)) (range_with_len 0 g.nx) →
    record { grid = g; x = x; y = y; z = z } ≡ cuts_for g js
unfolding cuts_for
cuts_from_pieces g js x y z own y_is z_is =
    let all_y : y ≡ flat_map (y_cuts g js) (range_with_len 0 g.nx) = y_is ∙ (λ i. flat_map (λ k. cuts_of (along Y) (in_slab_along X (own i) js k) g.ny) (range_with_len 0 g.nx)) in
    let all_z : z ≡ flat_map (λ ix. flat_map (z_cuts g js ix) (range_with_len 0 g.ny)) (range_with_len 0 g.nx) =
    z_is ∙ (λ i. flat_map (λ k. column_cuts g (in_slab_along X (own i) js k)) (range_with_len 0 g.nx)) in
    λ i. record { grid = g; x = own i; y = all_y i; z = all_z i }

-- so a slab of sites makes the cuts of its particles
rows_alike : MapsKeepOrders Particle Particle → (g : Division) (js : List Particle) (x : List ℕ) (k : ℕ) → cuts_of (along Y) (in_slab_along X x (map site_of js) k) g.ny ≡ cuts_of (along Y) (in_slab_along X x js k) g.ny
rows_alike keep g js x k = ap (λ (l : List Particle). cuts_of (along Y) l g.ny) (in_slab_along-sites X x js k) ∙ cuts_of-sites keep Y (in_slab_along X x js k) g.ny

columns_alike : MapsKeepOrders Particle Particle → (g : Division) (js : List Particle) (x : List ℕ) (k : ℕ) → column_cuts g (in_slab_along X x (map site_of js) k) ≡ column_cuts g (in_slab_along X x js k)
columns_alike keep g js x k = ap (column_cuts g) (in_slab_along-sites X x js k) ∙ column_cuts-sites keep g (in_slab_along X x js k)

pub cuts_for-sites : MapsKeepOrders Particle Particle → (g : Division) (js : List Particle) → cuts_for g (map site_of js) ≡ cuts_for g js
cuts_for-sites keep g js =
    let x : List ℕ = cuts_of (along X) (map site_of js) g.nx in
    let slabs : List ℕ = range_with_len 0 g.nx in
    sym (cuts_from_pieces g (map site_of js) x (flat_map (λ k. cuts_of (along Y) (in_slab_along X x (map site_of js) k) g.ny) slabs) (flat_map (λ k. column_cuts g (in_slab_along X x (map site_of js) k)) slabs) refl refl refl)
    ∙ cuts_from_pieces g js x _ _ (cuts_of-sites keep X js g.nx) (λ i. flat_map (λ k. rows_alike keep g js x k i) slabs) (λ i. flat_map (λ k. columns_alike keep g js x k i) slabs)

pub sites_are_bodies : (js : List Particle) → AreBodies js → AreBodies (map site_of js)
sites_are_bodies js h =
    let long = length-map js site_of in
    let few = h.few in
    record { few = omega arith; distinct = rw (ids_kept site_of (λ j. refl) js) h.distinct }
