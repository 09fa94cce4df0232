-- The list over some particles and others.
use Rattle.std.proofs.Common.{◌≡◌, ℕ, ◌+◌, ◌≤◌, false, List, [], ◌∷◌, ◌++◌, length, map, Option, Some, None, inl, inr, ◌⊎◌, refl, sym, ◌∙◌, ap, subst, arith}
use Rattle.std.specs.Prelude.{nat_eq}
use Rattle.std.specs.List.{IsDistinct, AllByRecursion}
use Rattle.std.proofs.lemmas.Bool.{cases_lt}
use Rattle.std.proofs.lemmas.List.{length-append, append-nil, nil_from_length}
use Rattle.std.proofs.lemmas.List.Elements.{filter-append}
use Rattle.pf_geom.specs.Bounds.{Bounds}
use Rattle.pf_geom.specs.Octant.{Octant, IsCell, cell_at}
use Rattle.pf_geom.specs.CellLaws.{PositionsHaveCells}
use Rattle.pf_model.specs.declared.entry.Entry.{Entry}
use Rattle.pf_model.specs.declared.entry.Entry.TheVariants.{Cell, One}
use Rattle.pf_model.specs.Particle.{Particle}
use Rattle.pf_model.specs.Particles.{HaveDistinctIds}
use Rattle.pf_model.specs.Criterion.{Criterion}
use Rattle.pf_model.specs.Totals.{Totals}
use Rattle.pf_model.specs.Sums.{moment_of, together}
use Rattle.pf_model.specs.Interaction.{level_of, is_cell, entry_at, comes_before, list_of}
use Rattle.pf_model.specs.Group.{particles_in}
use Rattle.pf_model.specs.Merging.{joined, merged}
use Rattle.model_laws.specs.ListLaws.{NonePasses, IsFirstCell, ListsHoldFirstCells, ListsHoldNearParticles}
use Rattle.model_laws.specs.MergingLaws.{ListsMerge, MergedListsShareCells}
use Rattle.order_laws.proofs.OrderLemmas.{In, same_ascending}
use Rattle.order_laws.proofs.ElementLemmas.{in_from_contains, contains_from_in}
use Rattle.pf_model.proofs.EntryLemmas.{comes_before-strict, ids_differ}
use Rattle.pf_model.proofs.MomentLemmas.{moment_of-append}
use Rattle.model_laws.proofs.ListLemmas.{list-ascends, list-sound}
use Rattle.model_laws.proofs.LevelLemmas.{first_from_level}
use Rattle.model_laws.proofs.MergeLemmas.{SamePlace, HasPlace, IsMerged, ascends-merged, merged-from, merged-in, length-merged}

-- ids that are distinct together
apart_left : (n : ℕ) (js ks : List Particle) → AllByRecursion (λ id. nat_eq n id ≡ false) (map (λ j. j.id) (js ++ ks)) → AllByRecursion (λ id. nat_eq n id ≡ false) (map (λ j. j.id) js)
apart_left n [] ks h = tt
apart_left n (j ∷ js) ks h = (h.0, apart_left n js ks h.1)

apart_right : (n : ℕ) (js ks : List Particle) → AllByRecursion (λ id. nat_eq n id ≡ false) (map (λ j. j.id) (js ++ ks)) → AllByRecursion (λ id. nat_eq n id ≡ false) (map (λ j. j.id) ks)
apart_right n [] ks h = h
apart_right n (j ∷ js) ks h = apart_right n js ks h.1

pub distinct_left : (js ks : List Particle) → HaveDistinctIds (js ++ ks) → HaveDistinctIds js
unfolding IsDistinct
distinct_left [] ks h = tt
distinct_left (j ∷ js) ks h = (apart_left j.id js ks h.0, distinct_left js ks h.1)

pub distinct_right : (js ks : List Particle) → HaveDistinctIds (js ++ ks) → HaveDistinctIds ks
unfolding IsDistinct
distinct_right [] ks h = h
distinct_right (j ∷ js) ks h = distinct_right js ks h.1

pub distinct_apart : (js ks : List Particle) → HaveDistinctIds (js ++ ks) → (p q : Particle) → In p js → In q ks → p.id ≡ q.id → ⊥
unfolding IsDistinct
distinct_apart [] ks h p q i k same = absurd i
distinct_apart (j ∷ js) ks h p q (inl e) k same =
    ids_differ j ks q k (apart_right j.id js ks h.0) (let there : j.id ≡ p.id = ap (λ (v : Particle). v.id) e in omega arith)
distinct_apart (j ∷ js) ks h p q (inr i) k same = distinct_apart js ks h.1 p q i k same

pub in_either : (js ks : List Particle) (p : Particle) → In p (js ++ ks) → In p js ⊎ In p ks
in_either [] ks p i = inr i
in_either (j ∷ js) ks p (inl e) = inl (inl e)
in_either (j ∷ js) ks p (inr i) = elim (in_either js ks p i) [ inl h ↦ inl (inr h) | inr h ↦ inr h ]

pub in_left : (js ks : List Particle) (p : Particle) → In p js → In p (js ++ ks)
in_left [] ks p i = absurd i
in_left (j ∷ js) ks p (inl e) = inl e
in_left (j ∷ js) ks p (inr i) = inr (in_left js ks p i)

pub in_right : (js ks : List Particle) (p : Particle) → In p ks → In p (js ++ ks)
in_right [] ks p i = i
in_right (j ∷ js) ks p i = inr (in_right js ks p i)

-- the particles in a cell
both_in_cell : (c : Octant) (js ks : List Particle) → particles_in c (js ++ ks) ≡ particles_in c js ++ particles_in c ks
both_in_cell c js ks = filter-append (λ (j : Particle). is_cell c (cell_at j.at c.level)) js ks

-- the laws of single lists
record Laws : Type 0 where
  pub cells : ListsHoldFirstCells
  pub near : ListsHoldNearParticles
  pub have_cells : PositionsHaveCells

-- a cell in a list is a cell
abbrev IsCellEntry : Entry → Type 0
IsCellEntry (Cell c m) = IsCell c
IsCellEntry (One p) = Unit {0}

cell_entry_at : PositionsHaveCells → (t : Criterion) (box : Bounds) (js : List Particle) (j : Particle) (o : Option ℕ) → level_of t box j.at ≡ o → IsCellEntry (entry_at t box js j o)
cell_entry_at cells t box js j None e = tt
cell_entry_at cells t box js j (Some level) e = cells j.at level (first_from_level t box j.at level e).within

cell_in_list : PositionsHaveCells → (t : Criterion) (box : Bounds) (js : List Particle) (e : Entry) → In e (list_of t box js) → IsCellEntry e
cell_in_list cells t box js e i =
    let from = list-sound t box js e i in
    subst IsCellEntry (sym from.2) (cell_entry_at cells t box js from.0 (level_of t box from.0.at) refl)

-- what a cell of a list is, and when one is there
abbrev Holds : Criterion → Bounds → List Particle → Octant → Totals → Type 0
Holds t box js c m = IsFirstCell t box c × (1 ≤ length (particles_in c js)) × (m ≡ moment_of (particles_in c js))

held : Laws → (t : Criterion) (box : Bounds) (js : List Particle) (c : Octant) (m : Totals) → HaveDistinctIds js → In (Cell c m) (list_of t box js) → Holds t box js c m
held laws t box js c m distinct i =
    (laws.cells t box js c m distinct (cell_in_list laws.have_cells t box js (Cell c m) i)).0 (contains_from_in (list_of t box js) (Cell c m) i)

holds : Laws → (t : Criterion) (box : Bounds) (js : List Particle) (c : Octant) (m : Totals) → HaveDistinctIds js → IsCell c → Holds t box js c m → In (Cell c m) (list_of t box js)
holds laws t box js c m distinct is h = in_from_contains (list_of t box js) (Cell c m) ((laws.cells t box js c m distinct is).1 h)

is_near : Laws → (t : Criterion) (box : Bounds) (js : List Particle) (p : Particle) → HaveDistinctIds js → In (One p) (list_of t box js) → In p js × NonePasses t box p.at
is_near laws t box js p distinct i =
    let both = (laws.near t box js p distinct).0 (contains_from_in (list_of t box js) (One p) i) in
    (in_from_contains js p both.0, both.1)

near_is : Laws → (t : Criterion) (box : Bounds) (js : List Particle) (p : Particle) → HaveDistinctIds js → In p js → NonePasses t box p.at → In (One p) (list_of t box js)
near_is laws t box js p distinct i none = in_from_contains (list_of t box js) (One p) ((laws.near t box js p distinct).1 (contains_from_in js p i, none))

-- no entry of a list stands at a cell that none of its particles lies in
no_cell_there : Laws → (t : Criterion) (box : Bounds) (ks : List Particle) (c : Octant) (m : Totals) → HaveDistinctIds ks → length (particles_in c ks) ≡ 0 → HasPlace (Cell c m) (list_of t box ks) → ⊥
no_cell_there laws t box ks c m distinct none (Cell d n, i, same) =
    let some = (held laws t box ks d n distinct i).1 in
    let none' : length (particles_in d ks) ≡ 0 = ap (λ (o : Octant). length (particles_in o ks)) (sym same) ∙ none in
    absurd (omega arith)
no_cell_there laws t box ks c m distinct none (One p, i, same) = absurd same

no_particle_there : Laws → (t : Criterion) (box : Bounds) (ks : List Particle) (p : Particle) → HaveDistinctIds ks → ((q : Particle) → In q ks → p.id ≡ q.id → ⊥) → HasPlace (One p) (list_of t box ks) → ⊥
no_particle_there laws t box ks p distinct apart (Cell d n, i, same) = absurd same
no_particle_there laws t box ks p distinct apart (One q, i, same) = apart q (is_near laws t box ks q distinct i).0 same

-- what an entry of the list over both is among the two lists
forth_cell : Laws → (t : Criterion) (box : Bounds) (js ks : List Particle) → HaveDistinctIds (js ++ ks) → (c : Octant) (m : Totals) → IsCell c → Holds t box (js ++ ks) c m → IsMerged (list_of t box js) (list_of t box ks) (Cell c m)
forth_cell laws t box js ks distinct c m is h =
    let dj = distinct_left js ks distinct in
    let dk = distinct_right js ks distinct in
    let a : List Particle = particles_in c js in
    let b : List Particle = particles_in c ks in
    let both = both_in_cell c js ks in
    let long : length (particles_in c (js ++ ks)) ≡ length a + length b = ap length both ∙ length-append a b in
    let some = h.1 in
    let m_is : m ≡ moment_of (a ++ b) = h.2 ∙ ap moment_of both in
    elim (cases_lt 0 (length b)) [
      | inl some_b ↦ elim (cases_lt 0 (length a)) [
        | inl some_a ↦ inr (inr (
          Cell c (moment_of a),
          Cell c (moment_of b),
          holds laws t box js c (moment_of a) dj is (h.0, omega arith, refl),
          holds laws t box ks c (moment_of b) dk is (h.0, omega arith, refl),
          refl,
          ap (Cell c) (m_is ∙ moment_of-append a b),
        ))
        | inr none_a ↦
            let empty : length a ≡ 0 = omega arith in
            let m_b : m ≡ moment_of b = m_is ∙ ap (λ (l : List Particle). moment_of (l ++ b)) (nil_from_length a empty) in
            inr (inl (holds laws t box ks c m dk is (h.0, omega arith, m_b), no_cell_there laws t box js c m dj empty))
      ]
      | inr none_b ↦
          let empty : length b ≡ 0 = omega arith in
          let m_a : m ≡ moment_of a = m_is ∙ ap (λ (l : List Particle). moment_of (a ++ l)) (nil_from_length b empty) ∙ ap moment_of (append-nil a) in
          inl (holds laws t box js c m dj is (h.0, omega arith, m_a), no_cell_there laws t box ks c m dk empty)
    ]

forth : Laws → (t : Criterion) (box : Bounds) (js ks : List Particle) → HaveDistinctIds (js ++ ks) → (x : Entry) → In x (list_of t box (js ++ ks)) → IsMerged (list_of t box js) (list_of t box ks) x
forth laws t box js ks distinct (Cell c m) i =
    forth_cell laws t box js ks distinct c m (cell_in_list laws.have_cells t box (js ++ ks) (Cell c m) i) (held laws t box (js ++ ks) c m distinct i)
forth laws t box js ks distinct (One p) i =
    let near = is_near laws t box (js ++ ks) p distinct i in
    let dj = distinct_left js ks distinct in
    let dk = distinct_right js ks distinct in
    elim (in_either js ks p near.0) [
      | inl here ↦ inl (near_is laws t box js p dj here near.1, no_particle_there laws t box ks p dk (λ q k same. distinct_apart js ks distinct p q here k same))
      | inr there ↦ inr (inl (near_is laws t box ks p dk there near.1, no_particle_there laws t box js p dj (λ q k same. distinct_apart js ks distinct q p k there (sym same))))
    ]

-- a cell that both have in lists has particles of both
back_cell : Laws → (t : Criterion) (box : Bounds) (js ks : List Particle) → HaveDistinctIds (js ++ ks) → (c : Octant) (m : Totals) → IsCell c → IsFirstCell t box c → 1 ≤ length (particles_in c js) + length (particles_in c ks) → m ≡ moment_of (particles_in c js ++ particles_in c ks) → In (Cell c m) (list_of t box (js ++ ks))
back_cell laws t box js ks distinct c m is first some m_is =
    let both = both_in_cell c js ks in
    let long : length (particles_in c (js ++ ks)) ≡ length (particles_in c js) + length (particles_in c ks) = ap length both ∙ length-append (particles_in c js) (particles_in c ks) in
    holds laws t box (js ++ ks) c m distinct is (first, omega arith, m_is ∙ ap moment_of (sym both))

back_left : Laws → (t : Criterion) (box : Bounds) (js ks : List Particle) → HaveDistinctIds (js ++ ks) → (x : Entry) → In x (list_of t box js) → (HasPlace x (list_of t box ks) → ⊥) → In x (list_of t box (js ++ ks))
back_left laws t box js ks distinct (Cell c m) i away =
    let dj = distinct_left js ks distinct in
    let dk = distinct_right js ks distinct in
    let is = cell_in_list laws.have_cells t box js (Cell c m) i in
    let h = held laws t box js c m dj i in
    let some = h.1 in
    elim (cases_lt 0 (length (particles_in c ks))) [
      | inl more ↦ absurd (away (Cell c (moment_of (particles_in c ks)), holds laws t box ks c (moment_of (particles_in c ks)) dk is (h.0, omega arith, refl), refl))
      | inr none ↦
          let empty : length (particles_in c ks) ≡ 0 = omega arith in
          let m_is : m ≡ moment_of (particles_in c js ++ particles_in c ks) =
          h.2 ∙ ap moment_of (sym (append-nil (particles_in c js)) ∙ ap (λ (l : List Particle). particles_in c js ++ l) (sym (nil_from_length (particles_in c ks) empty))) in
          back_cell laws t box js ks distinct c m is h.0 (omega arith) m_is
    ]
back_left laws t box js ks distinct (One p) i away =
    let near = is_near laws t box js p (distinct_left js ks distinct) i in
    near_is laws t box (js ++ ks) p distinct (in_left js ks p near.0) near.1

back_right : Laws → (t : Criterion) (box : Bounds) (js ks : List Particle) → HaveDistinctIds (js ++ ks) → (x : Entry) → In x (list_of t box ks) → (HasPlace x (list_of t box js) → ⊥) → In x (list_of t box (js ++ ks))
back_right laws t box js ks distinct (Cell c m) i away =
    let dj = distinct_left js ks distinct in
    let dk = distinct_right js ks distinct in
    let is = cell_in_list laws.have_cells t box ks (Cell c m) i in
    let h = held laws t box ks c m dk i in
    let some = h.1 in
    elim (cases_lt 0 (length (particles_in c js))) [
      | inl more ↦ absurd (away (Cell c (moment_of (particles_in c js)), holds laws t box js c (moment_of (particles_in c js)) dj is (h.0, omega arith, refl), refl))
      | inr none ↦
          let empty : length (particles_in c js) ≡ 0 = omega arith in
          let m_is : m ≡ moment_of (particles_in c js ++ particles_in c ks) =
          h.2 ∙ ap (λ (l : List Particle). moment_of (l ++ particles_in c ks)) (sym (nil_from_length (particles_in c js) empty)) in
          back_cell laws t box js ks distinct c m is h.0 (omega arith) m_is
    ]
back_right laws t box js ks distinct (One p) i away =
    let near = is_near laws t box ks p (distinct_right js ks distinct) i in
    near_is laws t box (js ++ ks) p distinct (in_right js ks p near.0) near.1

back_joined : Laws → (t : Criterion) (box : Bounds) (js ks : List Particle) → HaveDistinctIds (js ++ ks) → (e f : Entry) → In e (list_of t box js) → In f (list_of t box ks) → SamePlace e f → In (joined e f) (list_of t box (js ++ ks))
back_joined laws t box js ks distinct (Cell c m) (Cell d n) i k same =
    let dj = distinct_left js ks distinct in
    let dk = distinct_right js ks distinct in
    let is = cell_in_list laws.have_cells t box ks (Cell d n) k in
    let h = held laws t box js c m dj i in
    let l = held laws t box ks d n dk k in
    let some = l.1 in
    let m_is : m ≡ moment_of (particles_in d js) = h.2 ∙ ap (λ (o : Octant). moment_of (particles_in o js)) same in
    let both : together m n ≡ moment_of (particles_in d js ++ particles_in d ks) =
    (λ i. together (m_is i) (l.2 i)) ∙ sym (moment_of-append (particles_in d js) (particles_in d ks)) in
    back_cell laws t box js ks distinct d (together m n) is l.0 (omega arith) both
back_joined laws t box js ks distinct (Cell c m) (One q) i k same = absurd same
back_joined laws t box js ks distinct (One p) (Cell d n) i k same = absurd same
back_joined laws t box js ks distinct (One p) (One q) i k same =
    let here = is_near laws t box js p (distinct_left js ks distinct) i in
    let there = is_near laws t box ks q (distinct_right js ks distinct) k in
    absurd (distinct_apart js ks distinct p q here.0 there.0 same)

back : Laws → (t : Criterion) (box : Bounds) (js ks : List Particle) → HaveDistinctIds (js ++ ks) → (x : Entry) → IsMerged (list_of t box js) (list_of t box ks) x → In x (list_of t box (js ++ ks))
back laws t box js ks distinct x (inl h) = back_left laws t box js ks distinct x h.0 h.1
back laws t box js ks distinct x (inr (inl h)) = back_right laws t box js ks distinct x h.0 h.1
back laws t box js ks distinct x (inr (inr (e, f, i, k, same, is))) =
    let P : Entry → Type 0 = λ v. In v (list_of t box (js ++ ks)) in
    subst P (sym is) (back_joined laws t box js ks distinct e f i k same)

pub lists_merge : ListsHoldFirstCells → ListsHoldNearParticles → PositionsHaveCells → ListsMerge
lists_merge cells near have_cells t box js ks distinct =
    let laws : Laws = record { cells = cells; near = near; have_cells = have_cells } in
    let one = list_of t box js in
    let other = list_of t box ks in
    let a = list-ascends t box js in
    let b = list-ascends t box ks in
    same_ascending comes_before comes_before-strict (list_of t box (js ++ ks)) (merged one other) (list-ascends t box (js ++ ks)) (ascends-merged one other b)
    (λ x i. merged-in one other x a b (forth laws t box js ks distinct x i))
    (λ x i. back laws t box js ks distinct x (merged-from one other x a b i))

pub merged_lists_share_cells : ListsMerge → MergedListsShareCells
merged_lists_share_cells merge t box js ks distinct =
    let one = list_of t box js in
    let other = list_of t box ks in
    let same = ap length (merge t box js ks distinct) in
    let long = length-merged one other (list-ascends t box js) (list-ascends t box ks) in
    omega arith
