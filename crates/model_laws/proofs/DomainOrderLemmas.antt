-- Domains of the same particles in another order, and the particles of several ranks.
use Rattle.std.proofs.Common.{◌≡◌, ℕ, ◌-◌, ◌*◌, ◌/◌, ◌^◌, Bool, List, [], ◌∷◌, length, get_or, map, refl, sym, ◌∙◌, ap, subst, arith}
use Rattle.std.specs.Prelude.{nat_eq}
use Rattle.std.specs.List.{filter, list_any, flat_map, range_with_len, Contains}
use Rattle.std.specs.List.Sorted.{IsPermutation}
use Rattle.std.proofs.lemmas.Bool.{eqb-true}
use Rattle.std.proofs.lemmas.List.Sorted.{IsPermutation-sym, length_permutation}
use Rattle.std.proofs.lemmas.Map.Views.{Contains-from_any}
use Rattle.pf_geom.specs.Position.{Position}
use Rattle.pf_geom.specs.Bounds.{Bounds}
use Rattle.order_laws.specs.Order.{in_order_once}
use Rattle.order_laws.specs.OrderLaws.{ListsInOrderAreOne}
use Rattle.pf_model.specs.declared.entry.Entry.{Entry}
use Rattle.pf_model.specs.Particle.{Particle}
use Rattle.pf_model.specs.Particles.{HaveDistinctIds}
use Rattle.pf_model.specs.Division.{Division}
use Rattle.pf_model.specs.Domains.{Multisection, slab_of, owner_by, box_by, comes_first, cuts_of, x_cuts, in_slab, y_cuts, in_column, z_cuts, cuts_for, owner, particles_of, domain_box}
use Rattle.pf_model.specs.Interaction.{list_of}
use Rattle.pf_model.specs.EssentialTree.{tree_for, essential_tree}
use Rattle.model_laws.specs.DomainLaws.{OrdersAlongAreOne, CutsAlongIgnoreOrder, CutsIgnoreOrder, DomainsIgnoreOrder, EssentialTreesIgnoreOrder, RanksHaveTheirOwn}
use Rattle.order_laws.proofs.OrderLemmas.{IsConnected, IsAscending-in_order, in_from_in_order, in_order_from_in, same_ascending}
use Rattle.order_laws.proofs.PermutationLemmas.{IsPermutation-filter, either_filter}
use Rattle.order_laws.proofs.RisingLemmas.{permuted_in}
use Rattle.pf_model.proofs.EntryLemmas.{pair-connected, same_from_id}
use Rattle.model_laws.proofs.ListLemmas.{list-same}
use Rattle.model_laws.proofs.CutLemmas.{comes_first-strict}
use Rattle.model_laws.proofs.ReuseLemmas.{some_have_distinct_ids, distinct_ids_ignore_order, filter_agree_on}

-- the order of (coordinate, id) leaves no two particles level
IsConnected-along : (along : Position → ℕ) (js : List Particle) → HaveDistinctIds js → IsConnected (comes_first along) js
IsConnected-along along js distinct p q i k h l = same_from_id js distinct q p k i (sym (pair-connected (along p.at) p.id (along q.at) q.id h l).1)

pub sorted_alike : (along : Position → ℕ) (js ks : List Particle) → HaveDistinctIds js → IsPermutation js ks → in_order_once (comes_first along) js ≡ in_order_once (comes_first along) ks
sorted_alike along js ks distinct h =
    let order = comes_first along in
    let strict = comes_first-strict along in
    let back = IsPermutation-sym js ks h in
    let distinct_ks = distinct_ids_ignore_order js ks h distinct in
    same_ascending order strict (in_order_once order js) (in_order_once order ks) (IsAscending-in_order order strict js) (IsAscending-in_order order strict ks)
    (λ p i. in_order_from_in order ks (IsConnected-along along ks distinct_ks) p (permuted_in js ks p h (in_from_in_order order js p i)))
    (λ p i. in_order_from_in order js (IsConnected-along along js distinct) p (permuted_in ks js p back (in_from_in_order order ks p i)))

pub cuts_alike : (along : Position → ℕ) (js ks : List Particle) (m : ℕ) → HaveDistinctIds js → IsPermutation js ks → cuts_of along js m ≡ cuts_of along ks m
cuts_alike along js ks m distinct h =
    let sorted = sorted_alike along js ks distinct h in
    let long = sym (length_permutation js ks h) in
    λ i. map (λ k. get_or (map (λ j. along j.at) (sorted i)) (long i * k / m) (2 ^ 30)) (range_with_len 1 (m - 1))

pub cuts_along_ignore_order : CutsAlongIgnoreOrder
cuts_along_ignore_order = cuts_alike

pub orders_along_are_one : ListsInOrderAreOne Particle → OrdersAlongAreOne
orders_along_are_one law along js ks h ordered =
    let strict = comes_first-strict along in
    law (comes_first along) js ks (record { irreflexive = strict.irreflexive; transitive = strict.transitive }) h ordered

-- what a test keeps of both, where the tests are one
filtered_alike : (test other : Particle → Bool) (js ks : List Particle) → ((j : Particle) → test j ≡ other j) → IsPermutation js ks → IsPermutation (filter test js) (filter other ks)
filtered_alike test other js ks agree h = subst (IsPermutation (filter test js)) (filter_agree_on test other ks (λ j i. agree j)) (IsPermutation-filter test js ks h)

record IsSlabAlike (g : Division) (js ks : List Particle) (ix : ℕ) : Type 0 where
  pub same : IsPermutation (in_slab g js ix) (in_slab g ks ix)
  pub distinct : HaveDistinctIds (in_slab g js ix)
  pub cuts : y_cuts g js ix ≡ y_cuts g ks ix

slab_alike : (g : Division) (js ks : List Particle) (ix : ℕ) → HaveDistinctIds js → IsPermutation js ks → IsSlabAlike g js ks ix
slab_alike g js ks ix distinct h =
    let x = cuts_alike (λ p. p.x) js ks g.nx distinct h in
    let test : List ℕ → Particle → Bool = λ cuts j. nat_eq (slab_of cuts j.at.x) ix in
    let same = filtered_alike (test (x_cuts g js)) (test (x_cuts g ks)) js ks (λ j. ap (λ cuts. test cuts j) x) h in
    let some = some_have_distinct_ids (test (x_cuts g js)) js distinct in
    record { same = same; distinct = some; cuts = cuts_alike (λ p. p.y) (in_slab g js ix) (in_slab g ks ix) g.ny some same }

column_alike : (g : Division) (js ks : List Particle) (ix iy : ℕ) → HaveDistinctIds js → IsPermutation js ks → z_cuts g js ix iy ≡ z_cuts g ks ix iy
column_alike g js ks ix iy distinct h =
    let slab = slab_alike g js ks ix distinct h in
    let test : List ℕ → Particle → Bool = λ cuts j. nat_eq (slab_of cuts j.at.y) iy in
    let same = filtered_alike (test (y_cuts g js ix)) (test (y_cuts g ks ix)) (in_slab g js ix) (in_slab g ks ix) (λ j. ap (λ cuts. test cuts j) slab.cuts) slab.same in
    let some = some_have_distinct_ids (test (y_cuts g js ix)) (in_slab g js ix) slab.distinct in
    cuts_alike (λ p. p.z) (in_column g js ix iy) (in_column g ks ix iy) g.nz some same

pub cuts_ignore_order : CutsIgnoreOrder
unfolding cuts_for
cuts_ignore_order g js ks distinct h =
    let x = cuts_alike (λ p. p.x) js ks g.nx distinct h in
    let y = λ (ix : ℕ). (slab_alike g js ks ix distinct h).cuts in
    let z = λ (ix iy : ℕ). column_alike g js ks ix iy distinct h in
    λ i. record {
      grid = g;
      x = x i;
      y = flat_map (λ ix. y ix i) (range_with_len 0 g.nx);
      z = flat_map (λ ix. flat_map (λ iy. z ix iy i) (range_with_len 0 g.ny)) (range_with_len 0 g.nx);
    }

owner_alike : (g : Division) (js ks : List Particle) (p : Position) → HaveDistinctIds js → IsPermutation js ks → owner g js p ≡ owner g ks p
unfolding owner
owner_alike g js ks p distinct h = ap (λ (s : Multisection). owner_by s p) (cuts_ignore_order g js ks distinct h)

box_alike : (g : Division) (js ks : List Particle) (rank : ℕ) → HaveDistinctIds js → IsPermutation js ks → domain_box g js rank ≡ domain_box g ks rank
unfolding domain_box
box_alike g js ks rank distinct h = ap (λ (s : Multisection). box_by s rank) (cuts_ignore_order g js ks distinct h)

own_alike : (g : Division) (js ks : List Particle) (rank : ℕ) → HaveDistinctIds js → IsPermutation js ks → IsPermutation (particles_of g js rank) (particles_of g ks rank)
own_alike g js ks rank distinct h =
    filtered_alike (λ j. nat_eq (owner g js j.at) rank) (λ j. nat_eq (owner g ks j.at) rank) js ks (λ j. ap (λ (r : ℕ). nat_eq r rank) (owner_alike g js ks j.at distinct h)) h

pub domains_ignore_order : DomainsIgnoreOrder
domains_ignore_order g js ks distinct h = (
  λ p. owner_alike g js ks p distinct h,
  λ rank. box_alike g js ks rank distinct h,
  λ rank. own_alike g js ks rank distinct h,
  λ ranks. filtered_alike (λ j. list_any (nat_eq (owner g js j.at)) ranks) (λ j. list_any (nat_eq (owner g ks j.at)) ranks) js ks (λ j. ap (λ (r : ℕ). list_any (nat_eq r) ranks) (owner_alike g js ks j.at distinct h)) h,
)

tree_alike : (is js : List Particle) (items : List Entry) → length is ≡ length js → tree_for is items ≡ tree_for js items
tree_alike [] [] items e = refl
tree_alike [] (j ∷ js) items e = absurd (omega arith)
tree_alike (i ∷ is) [] items e = absurd (omega arith)
tree_alike (i ∷ is) (j ∷ js) items e = refl

pub essential_trees_ignore_order : EssentialTreesIgnoreOrder
unfolding essential_tree
essential_trees_ignore_order t g js ks src dst distinct h =
    let receivers = own_alike g js ks dst distinct h in
    let senders = own_alike g js ks src distinct h in
    let some = some_have_distinct_ids (λ j. nat_eq (owner g js j.at) src) js distinct in
    let items = list-same t (domain_box g js dst) (particles_of g js src) (particles_of g ks src) some senders ∙ ap (λ (b : Bounds). list_of t b (particles_of g ks src)) (box_alike g js ks dst distinct h) in
    ap (tree_for (particles_of g js dst)) items ∙ tree_alike (particles_of g js dst) (particles_of g ks dst) _ (sym (length_permutation (particles_of g js dst) (particles_of g ks dst) receivers))

pub ranks_have_their_own : RanksHaveTheirOwn
ranks_have_their_own g js rank ranks apart =
    either_filter (λ j. nat_eq (owner g js j.at) rank) (λ j. list_any (nat_eq (owner g js j.at)) ranks)
    js (λ j _ e h. apart (let same : owner g js j.at ≡ rank = eqb-true (owner g js j.at) rank e in subst (Contains ranks) same (Contains-from_any eqb-true (owner g js j.at) ranks h)))
