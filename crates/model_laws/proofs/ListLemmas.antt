-- Interaction lists: their order, their entries and the members of these.
use Rattle.std.proofs.Common.{◌≡◌, ℕ, ◌<◌, true, List, [], ◌∷◌, map, inl, inr, Option, Some, None, refl, sym, ◌∙◌, ap, subst, is_none, length, get_or, rules}
use Rattle.std.specs.List.{filter, Contains}
use Rattle.std.specs.Prelude.{nat_eq}
use Rattle.std.proofs.lemmas.Bool.{eqb-true, eq-eqb, and_parts, and_from, false≢true}
use Rattle.std.proofs.lemmas.List.{get_or_default}
use Rattle.std.proofs.lemmas.List.Elements.{All-contains, filter_passes}
use Rattle.std.specs.List.Sorted.{IsPermutation}
use Rattle.std.proofs.lemmas.List.Sorted.{IsPermutation-sym, IsPermutation-map, Contains-permutation}
use Rattle.std.proofs.lemmas.Map.Keys.{IsDistinct-IsPermutation}
use Rattle.pf_geom.specs.Bounds.{Bounds}
use Rattle.pf_geom.specs.Octant.{Octant, cell_at}
use Rattle.pf_model.specs.declared.entry.Entry.{Entry}
use Rattle.pf_model.specs.declared.entry.Entry.TheVariants.{Cell, One}
use Rattle.pf_model.specs.Particle.{Particle}
use Rattle.pf_model.specs.Particles.{HaveDistinctIds}
use Rattle.pf_model.specs.Criterion.{Criterion}
use Rattle.pf_model.specs.Sums.{moment_of}
use Rattle.pf_model.specs.Interaction.{level_of, is_cell_at, leads_to_cell, leads_to, entry_at, entry_of, comes_before, list_of, members_of}
use Rattle.model_laws.specs.ListLaws.{IsListOf}
use Rattle.order_laws.proofs.OrderLemmas.{In, IsAscending, IsAscending-in_order, in_from_in_order, in_order_from_in, same_ascending}
use Rattle.order_laws.proofs.ElementLemmas.{one_place, contains_from_in, ascending_from_pairs, before_at, in_from_contains, eqb_flips, keeps, in_at_place}
use Rattle.pf_model.proofs.EntryLemmas.{same_cell, entry_from_map, IsEntryOf, same_from_id, IsConnected-entries, comes_before-strict}
use Rattle.model_laws.proofs.OrderlessSums.{moment_from_sums, same_sums-filter}

pub entry_in_map : (t : Criterion) (box : Bounds) (js ks : List Particle) (j : Particle) → In j ks → In (entry_of t box js j) (map (entry_of t box js) ks)
entry_in_map t box js [] j i = absurd i
entry_in_map t box js (k ∷ ks) j (inl e) = inl (ap (entry_of t box js) e)
entry_in_map t box js (k ∷ ks) j (inr h) = inr (entry_in_map t box js ks j h)

-- a particle leads to its own entry
pub leads_to-itself : (t : Criterion) (box : Bounds) (js : List Particle) (j : Particle) (o : Option ℕ) → level_of t box j.at ≡ o → leads_to t box (entry_at t box js j o) j ≡ true
leads_to-itself t box js j None e = and_from _ _ (ap is_none e) (eq-eqb j.id j.id refl)
leads_to-itself t box js j (Some n) e =
    ap (is_cell_at (cell_at j.at n) j.at) e ∙ and_from _ _ (eq-eqb n n refl) (eq-eqb (cell_at j.at n).key (cell_at j.at n).key refl)

-- and to no other
pub same_entry : (t : Criterion) (box : Bounds) (js : List Particle) → HaveDistinctIds js → (p j : Particle) (o r : Option ℕ) → In p js → In j js → level_of t box j.at ≡ r → leads_to t box (entry_at t box js p o) j ≡ true → entry_at t box js p o ≡ entry_at t box js j r
same_entry t box js distinct p j None None i k e leads = ap One (same_from_id js distinct p j i k (eqb-true p.id j.id (and_parts _ _ leads).1))
same_entry t box js distinct p j None (Some n) i k e leads = absurd (false≢true (sym (ap is_none e) ∙ (and_parts _ _ leads).0))
same_entry t box js distinct p j (Some m) None i k e leads = absurd (false≢true (sym (ap (is_cell_at (cell_at p.at m) j.at) e) ∙ leads))
same_entry t box js distinct p j (Some m) (Some n) i k e leads =
    let both = and_parts _ _ (sym (ap (is_cell_at (cell_at p.at m) j.at) e) ∙ leads) in
    ap (λ (c : Octant). Cell c (moment_of (filter (leads_to_cell t box c) js))) (same_cell (cell_at p.at m) (cell_at j.at n) (eqb-true _ _ both.0) (eqb-true _ _ both.1))

-- the list ascends, and has the entries of the particles
pub list-ascends : (t : Criterion) (box : Bounds) (js : List Particle) → IsAscending comes_before (list_of t box js)
unfolding list_of
list-ascends t box js = IsAscending-in_order comes_before comes_before-strict (map (entry_of t box js) js)

pub list-sound : (t : Criterion) (box : Bounds) (js : List Particle) (e : Entry) → In e (list_of t box js) → IsEntryOf t box js e js
unfolding list_of
list-sound t box js e i = entry_from_map t box js js e (in_from_in_order comes_before (map (entry_of t box js) js) e i)

pub list-complete : (t : Criterion) (box : Bounds) (js : List Particle) → HaveDistinctIds js → (j : Particle) → In j js → In (entry_of t box js j) (list_of t box js)
unfolding list_of
list-complete t box js distinct j i =
    in_order_from_in comes_before (map (entry_of t box js) js) (IsConnected-entries t box js js distinct (λ p h. h)) (entry_of t box js j) (entry_in_map t box js js j i)

pub IsListOf-list_of : (t : Criterion) (box : Bounds) (js : List Particle) → HaveDistinctIds js → IsListOf t box js (list_of t box js)
IsListOf-list_of t box js distinct = record {
  ordered = λ i j d less within. search (rules, before_at comes_before (list_of t box js) (list-ascends t box js) i j d less within);
  complete = λ j h. contains_from_in (list_of t box js) (entry_of t box js j) (list-complete t box js distinct j (in_from_contains js j h));
  sound = λ e h.
      let found = list-sound t box js e (in_from_contains (list_of t box js) e h) in
      (found.0, contains_from_in js found.0 found.1, found.2);
}

pub same_list : (t : Criterion) (box : Bounds) (js : List Particle) (es fs : List Entry) → IsListOf t box js es → IsListOf t box js fs → es ≡ fs
same_list t box js es fs a b =
    let P : Entry → List Entry → Type 0 = λ e l. In e l in
    same_ascending comes_before comes_before-strict es fs
    (ascending_from_pairs comes_before es (λ i j d less within. search (rules, a.ordered i j d less within)))
    (ascending_from_pairs comes_before fs (λ i j d less within. search (rules, b.ordered i j d less within)))
    (λ e h. let found = a.sound e (contains_from_in es e h) in subst (λ (v : Entry). P v fs) (sym found.2) (in_from_contains fs (entry_of t box js found.0) (b.complete found.0 found.1)))
    (λ e h. let found = b.sound e (contains_from_in fs e h) in subst (λ (v : Entry). P v es) (sym found.2) (in_from_contains es (entry_of t box js found.0) (a.complete found.0 found.1)))

-- an entry of the list to which j leads is the entry of j
pub entry-unique : (t : Criterion) (box : Bounds) (js : List Particle) → HaveDistinctIds js → (j : Particle) → In j js → (e : Entry) → In e (list_of t box js) → leads_to t box e j ≡ true → e ≡ entry_of t box js j
entry-unique t box js distinct j i e h leads =
    let found = list-sound t box js e h in
    let leads' : leads_to t box (entry_of t box js found.0) j ≡ true = sym (ap (λ (v : Entry). leads_to t box v j) found.2) ∙ leads in
    found.2 ∙ same_entry t box js distinct found.0 j (level_of t box found.0.at) (level_of t box j.at) found.1 i refl leads'

-- the members of the entry at a place include j exactly where it is j's entry
pub member_place : (t : Criterion) (box : Bounds) (js : List Particle) (j : Particle) → HaveDistinctIds js → In j js → (k : ℕ) → k < length (list_of t box js) → get_or (list_of t box js) k (entry_of t box js j) ≡ entry_of t box js j → (i : ℕ) (e : Entry) → i < length (list_of t box js) → (Contains (members_of t box js (get_or (list_of t box js) i e)) j → i ≡ k) × (i ≡ k → Contains (members_of t box js (get_or (list_of t box js) i e)) j)
member_place t box js j distinct inside k within_k here i e within_i =
    let es = list_of t box js in
    let there : get_or es k e ≡ entry_of t box js j = get_or_default es k e (entry_of t box js j) within_k ∙ here in
    let only : Contains (members_of t box js (get_or es i e)) j → i ≡ k = λ h.
    let leads = All-contains (λ p. leads_to t box (get_or es i e) p ≡ true) (members_of t box js (get_or es i e)) j (filter_passes (leads_to t box (get_or es i e)) js) h in
    let same = entry-unique t box js distinct j inside (get_or es i e) (in_at_place es i e within_i) leads in
    one_place comes_before comes_before-strict es (list-ascends t box js) i k e within_i within_k (same ∙ sym there) in
    let found : i ≡ k → Contains (members_of t box js (get_or es i e)) j = λ same.
    let entry : get_or es i e ≡ entry_of t box js j = ap (λ (n : ℕ). get_or es n e) same ∙ there in
    let leads = ap (λ (v : Entry). leads_to t box v j) entry ∙ leads_to-itself t box js j (level_of t box j.at) refl in
    contains_from_in (members_of t box js (get_or es i e)) j (keeps (leads_to t box (get_or es i e)) j js leads inside) in
    (only, found)

-- the order of the particles changes neither their entries nor their list
same_entry_at : (t : Criterion) (box : Bounds) (js ks : List Particle) → IsPermutation js ks → (j : Particle) (o : Option ℕ) → entry_at t box js j o ≡ entry_at t box ks j o
same_entry_at t box js ks h j None = refl
same_entry_at t box js ks h j (Some level) =
    let c = cell_at j.at level in
    ap (Cell c) (moment_from_sums (filter (leads_to_cell t box c) js) (filter (leads_to_cell t box c) ks) (same_sums-filter (leads_to_cell t box c) js ks h))

pub list-same : (t : Criterion) (box : Bounds) (js ks : List Particle) → HaveDistinctIds js → IsPermutation js ks → list_of t box js ≡ list_of t box ks
list-same t box js ks distinct h =
    let distinct_ks = IsDistinct-IsPermutation nat_eq eqb_flips (map (λ (j : Particle). j.id) js) (map (λ (j : Particle). j.id) ks) (IsPermutation-map (λ (j : Particle). j.id) js ks h) distinct in
    let of_js = IsListOf-list_of t box js distinct in
    let back = IsPermutation-sym js ks h in
    let P : Entry → Type 0 = λ e. Contains (list_of t box js) e in
    same_list t box ks (list_of t box js) (list_of t box ks)
    (record {
      ordered = of_js.ordered;
      complete = λ j inside. subst P (same_entry_at t box js ks h j (level_of t box j.at)) (of_js.complete j (Contains-permutation ks js j back inside));
      sound = λ e inside. (let found = of_js.sound e inside in (found.0, Contains-permutation js ks found.0 h found.1, found.2 ∙ same_entry_at t box js ks h found.0 (level_of t box found.0.at)));
    })
    (IsListOf-list_of t box ks distinct_ks)
