-- Kept lists at the build.
use Rattle.std.proofs.Common.{◌≡◌, ℕ, Bool, true, false, List, [], ◌∷◌, map, Option, Some, None, unwrap_or, inl, inr, refl, sym, ◌∙◌, ap, subst, cond}
use Rattle.std.specs.List.{filter, find, list_any, IsDistinct, AllByRecursion}
use Rattle.std.specs.Prelude.{nat_eq}
use Rattle.std.proofs.lemmas.Bool.{cond_both, eqb-true, eq-eqb, false≢true, or_left, or_right, or_cases}
use Rattle.std.proofs.lemmas.Map.Keys.{IsDistinct-IsPermutation}
use Rattle.std.proofs.lemmas.List.Sorted.{IsPermutation-map}
use Rattle.pf_geom.specs.Bounds.{Bounds}
use Rattle.pf_geom.specs.Octant.{cell_at}
use Rattle.pf_model.specs.declared.entry.Entry.{Entry}
use Rattle.pf_model.specs.declared.entry.Entry.TheVariants.{Cell, One}
use Rattle.pf_model.specs.Particle.{Particle}
use Rattle.pf_model.specs.Particles.{HaveDistinctIds}
use Rattle.pf_model.specs.Criterion.{Criterion}
use Rattle.pf_model.specs.Sums.{moment_of}
use Rattle.pf_model.specs.Interaction.{level_of, leads_to_cell, entry_at, list_of, members_of}
use Rattle.pf_model.specs.Reuse.{present, present_entry, kept_list}
use Rattle.model_laws.specs.ReuseLaws.{KeptListsBeginAsLists}
use Rattle.model_laws.specs.ParticleLaws.{ParticlesOfOneIdAreOne, DistinctIdsIgnoreOrder, SomeHaveDistinctIds}
use Rattle.order_laws.proofs.OrderLemmas.{In}
use Rattle.order_laws.proofs.ElementLemmas.{in_from_contains, keeps, eqb_flips, in_filter}
use Rattle.pf_model.proofs.EntryLemmas.{same_from_id}
use Rattle.model_laws.proofs.ListLemmas.{list-sound}
use Rattle.model_laws.proofs.ListCellLemmas.{same_tests}

pub particles_of_one_id_are_one : ParticlesOfOneIdAreOne
particles_of_one_id_are_one js p q distinct h k same = same_from_id js distinct p q (in_from_contains js p h) (in_from_contains js q k) same

pub distinct_ids_ignore_order : DistinctIdsIgnoreOrder
distinct_ids_ignore_order js ks h distinct =
    IsDistinct-IsPermutation nat_eq eqb_flips (map (λ (j : Particle). j.id) js) (map (λ (j : Particle). j.id) ks) (IsPermutation-map (λ (j : Particle). j.id) js ks h) distinct

-- what differs from all ids differs from those that are kept
apart_kept : (n : ℕ) (test : Particle → Bool) (js : List Particle) → AllByRecursion (λ id. nat_eq n id ≡ false) (map (λ j. j.id) js) → AllByRecursion (λ id. nat_eq n id ≡ false) (map (λ j. j.id) (filter test js))
apart_kept n test [] h = tt
apart_kept n test (j ∷ js) h =
    let P : List Particle → Type 0 = λ l. AllByRecursion (λ id. nat_eq n id ≡ false) (map (λ (i : Particle). i.id) l) in
    cond_both (test j) (j ∷ filter test js) (filter test js) P (λ _. (h.0, apart_kept n test js h.1)) (λ _. apart_kept n test js h.1)

pub some_have_distinct_ids : SomeHaveDistinctIds
unfolding IsDistinct
some_have_distinct_ids test [] distinct = tt
some_have_distinct_ids test (j ∷ js) distinct =
    let rest = some_have_distinct_ids test js distinct.1 in
    cond_both (test j) (j ∷ filter test js) (filter test js) HaveDistinctIds (λ _. (apart_kept j.id test js distinct.0, rest)) (λ _. rest)

-- tests that agree on the elements keep the same
pub filter_agree_on : {X : Type 0} (p q : X → Bool) (xs : List X) → ((x : X) → In x xs → p x ≡ q x) → filter p xs ≡ filter q xs
filter_agree_on p q [] h = refl
filter_agree_on p q (x ∷ xs) h =
    ap (λ (b : Bool). cond b (x ∷ filter p xs) (filter p xs)) (h x (inl refl)) ∙ ap (λ l. cond (q x) (x ∷ l) l) (filter_agree_on p q xs (λ y i. h y (inr i)))

pub list_any-from_in : {X : Type 0} (p : X → Bool) (xs : List X) (x : X) → In x xs → p x ≡ true → list_any p xs ≡ true
list_any-from_in p [] x i e = absurd i
list_any-from_in p (y ∷ ys) x (inl s) e = or_left (p y) (list_any p ys) (ap p s ∙ e)
list_any-from_in p (y ∷ ys) x (inr h) e = or_right (p y) (list_any p ys) (list_any-from_in p ys x h e)

pub in_from_list_any : {X : Type 0} (p : X → Bool) (xs : List X) → list_any p xs ≡ true → (x : X) × In x xs × (p x ≡ true)
in_from_list_any p [] e = absurd (false≢true e)
in_from_list_any p (y ∷ ys) e =
    elim (or_cases (p y) (list_any p ys) e) [
      | inl h ↦ (y, inl refl, h)
      | inr h ↦ (let rest = in_from_list_any p ys h in (rest.0, inr rest.1, rest.2))
    ]

-- whether one of those that are kept has the id of a particle
has_id_of_kept : (test : Particle → Bool) (js : List Particle) → HaveDistinctIds js → (p : Particle) → In p js → list_any (λ j. nat_eq p.id j.id) (filter test js) ≡ test p
has_id_of_kept test js distinct p i =
    let has : Particle → Bool = λ j. nat_eq p.id j.id in
    same_tests (list_any has (filter test js)) (test p)
    (λ e.
    (let found = in_from_list_any has (filter test js) e in
    let both = in_filter test found.0 js found.1 in
    let one : found.0 ≡ p = same_from_id js distinct found.0 p both.0 i (sym (eqb-true p.id found.0.id found.2)) in
    sym (ap test one) ∙ both.1))
    (λ e. list_any-from_in has (filter test js) p (keeps test p js e i) (eq-eqb p.id p.id refl))

-- at the build some of the particles are present as they are
present_begins_as_built : (test : Particle → Bool) (js : List Particle) → HaveDistinctIds js → present js (filter test js) ≡ filter test js
present_begins_as_built test js distinct =
    filter_agree_on (λ (p : Particle). list_any (λ (j : Particle). nat_eq p.id j.id) (filter test js)) test js (has_id_of_kept test js distinct)

-- the particle that is found is the one with the id
found_is : (js ks : List Particle) → HaveDistinctIds js → ((k : Particle) → In k ks → In k js) → (p : Particle) → In p js → unwrap_or (find (λ q. nat_eq p.id q.id) ks) p ≡ p
found_is js [] distinct some p i = refl
found_is js (k ∷ ks) distinct some p i =
    cond_both (nat_eq p.id k.id) (Some k) (find (λ q. nat_eq p.id q.id) ks) (λ (o : Option Particle). unwrap_or o p ≡ p)
    (λ e. same_from_id js distinct k p (some k (inl refl)) i (sym (eqb-true p.id k.id e)))
    (λ _. found_is js ks distinct (λ q h. some q (inr h)) p i)

map_same : {X : Type 0} (f : X → X) (xs : List X) → ((x : X) → In x xs → f x ≡ x) → map f xs ≡ xs
map_same f [] h = refl
map_same f (x ∷ xs) h = let head = h x (inl refl) in let tail = map_same f xs (λ y i. h y (inr i)) in cc

entry_begins : (t : Criterion) (box : Bounds) (js : List Particle) → HaveDistinctIds js → (j : Particle) (o : Option ℕ) → In j js → present_entry js (members_of t box js (entry_at t box js j o)) (entry_at t box js j o) ≡ entry_at t box js j o
entry_begins t box js distinct j None i = ap One (found_is js js distinct (λ k h. h) j i)
entry_begins t box js distinct j (Some level) i =
    let c = cell_at j.at level in
    ap (λ l. Cell c (moment_of l)) (present_begins_as_built (leads_to_cell t box c) js distinct)

pub kept_lists_begin_as_lists : KeptListsBeginAsLists
unfolding kept_list
kept_lists_begin_as_lists t box js distinct =
    let P : Entry → Type 0 = λ e. present_entry js (members_of t box js e) e ≡ e in
    map_same (λ e. present_entry js (members_of t box js e) e) (list_of t box js)
    (λ e i. let from = list-sound t box js e i in subst P (sym from.2) (entry_begins t box js distinct from.0 (level_of t box from.0.at) from.1))
