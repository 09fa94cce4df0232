-- Entries in the order of lists, after a sort by their places.
use Rattle.std.proofs.Common.{◌≡◌, ℕ, ◌<◌, ◌≤◌, Bool, true, false, ◌&&◌, ◌||◌, List, [], ◌∷◌, get_or, ◌⊎◌, inl, inr, Option, Some, None, refl, sym, ◌∙◌, ap, subst, arith, eqb, ltb, nat_eq}
use Rattle.std.specs.Prelude.{⊤}
use Rattle.std.specs.List.{filter, Contains, AllPairs, dedup}
use Rattle.std.specs.List.Sorted.{IsPermutation, IsSortedBy, IsStrictlySortedBy}
use Rattle.std.specs.Cmp.{nat_cmp_is, IsTotalOrder, IsEquivalence}
use Rattle.std.specs.Ordering.{nat_cmp, ordering_then, is_lt, is_eq, eq_by_cmp}
use Rattle.std.specs.declared.cmp.Ordering.{Ordering}
use Rattle.std.specs.declared.cmp.Ordering.TheVariants.{Less, Equal, Greater}
use Rattle.std.proofs.lemmas.Bool.{cases_order, lt-ltb, eqb-true, eq-eqb, ne_eqb, or_left, or_right, and_parts, and_from, true≢false}
use Rattle.std.proofs.lemmas.Cmp.{nat_cmp_total, on_total, then_total, on_equiv, and_equiv, nat_eq_equiv}
use Rattle.std.proofs.lemmas.List.{get_or_default}
use Rattle.std.proofs.lemmas.List.Elements.{All-from_recursion}
use Rattle.std.proofs.lemmas.List.Sorted.{Contains-permutation, IsPermutation-sym}
use Rattle.std.proofs.lemmas.List.Kept.{AllPairs-cons, Any-dedup, Contains-from_dedup, IsStrictlySortedBy-dedup}
use Rattle.pf_geom.specs.Bounds.{Bounds}
use Rattle.pf_geom.specs.Octant.{Octant, cell_at}
use Rattle.pf_model.specs.declared.entry.Entry.{Entry}
use Rattle.pf_model.specs.declared.entry.Entry.TheVariants.{Cell, One}
use Rattle.pf_model.specs.Particle.{Particle}
use Rattle.pf_model.specs.Particles.{HaveDistinctIds}
use Rattle.pf_model.specs.Criterion.{Criterion}
use Rattle.pf_model.specs.Sums.{moment_of}
use Rattle.pf_model.specs.Interaction.{entry_place, level_of, leads_to_cell, entry_at, entry_of, comes_before, list_of}
use Rattle.model_laws.specs.ParticleLaws.{ParticlesOfOneIdAreOne}
use Rattle.model_laws.specs.ListLaws.{LevelsAreLeast, ListsHoldTheirEntries}
use Rattle.group_lists.specs.Runs.{HasEntriesOf}

-- the order of pairs that the sort goes by, and whether two pairs are equal
abbrev pair_cmp : ℕ → ℕ → ℕ → ℕ → Ordering
pair_cmp a m b n = ordering_then (nat_cmp a b) (nat_cmp m n)

abbrev pub by_place : Entry → Entry → Ordering
by_place e f = pair_cmp (entry_place e).0 (entry_place e).1 (entry_place f).0 (entry_place f).1

abbrev pub is_earlier : Entry → Entry → Bool
is_earlier e f = is_lt (by_place e f)

abbrev pub same_place : Entry → Entry → Bool
same_place e f = nat_eq (entry_place e).0 (entry_place f).0 && nat_eq (entry_place e).1 (entry_place f).1

by_place-total : IsTotalOrder by_place
by_place-total = then_total (on_total (λ (e : Entry). (entry_place e).0) nat_cmp_total) (on_total (λ (e : Entry). (entry_place e).1) nat_cmp_total)

-- what the first numbers of two pairs, where they differ, make of their order
first_less : (a m b n : ℕ) → a < b → pair_cmp a m b n ≡ Less
first_less a m b n less = ap (λ (o : Ordering). ordering_then o (nat_cmp m n)) (sym (nat_cmp_is a b Less less))

first_greater : (a m b n : ℕ) → b < a → pair_cmp a m b n ≡ Greater
first_greater a m b n more = ap (λ (o : Ordering). ordering_then o (nat_cmp m n)) (sym (nat_cmp_is a b Greater more))

-- and the second ones, where the first are the same
first_same : (a m b n : ℕ) → a ≡ b → pair_cmp a m b n ≡ nat_cmp m n
first_same a m b n same = ap (λ (o : Ordering). ordering_then o (nat_cmp m n)) (sym (nat_cmp_is a b Equal same))

number_ties : (m n : ℕ) → nat_eq m n ≡ is_eq (nat_cmp m n)
number_ties m n =
    elim (cases_order m n) [
      | inl e ↦ eq-eqb m n e ∙ ap is_eq (nat_cmp_is m n Equal e)
      | inr h ↦ elim h [
        | inl less ↦ ne_eqb m n (λ e. omega arith) ∙ ap is_eq (nat_cmp_is m n Less less)
        | inr more ↦ ne_eqb m n (λ e. omega arith) ∙ ap is_eq (nat_cmp_is m n Greater more)
      ]
    ]

pair_ties : (a m b n : ℕ) → (nat_eq a b && nat_eq m n) ≡ is_eq (pair_cmp a m b n)
pair_ties a m b n =
    let first : Bool → Bool = λ x. x && nat_eq m n in
    elim (cases_order a b) [
      | inr h ↦ elim h [
        | inl less ↦ ap first (ne_eqb a b (λ e. omega arith)) ∙ ap is_eq (sym (first_less a m b n less))
        | inr more ↦ ap first (ne_eqb a b (λ e. omega arith)) ∙ ap is_eq (sym (first_greater a m b n more))
      ]
      | inl same ↦ ap first (eq-eqb a b same) ∙ number_ties m n ∙ ap is_eq (sym (first_same a m b n same))
    ]

same_place-ties : (e f : Entry) → same_place e f ≡ eq_by_cmp by_place e f
same_place-ties e f = pair_ties (entry_place e).0 (entry_place e).1 (entry_place f).0 (entry_place f).1

same_place-equiv : IsEquivalence same_place
same_place-equiv = and_equiv (on_equiv (λ (e : Entry). (entry_place e).0) nat_eq_equiv) (on_equiv (λ (e : Entry). (entry_place e).1) nat_eq_equiv)

not_less : (o : Ordering) → is_lt o ≡ false → o ≡ Less → ⊥
not_less o e h = true≢false (ap is_lt (sym h) ∙ e)

less_pair : (a m b n : ℕ) → pair_cmp a m b n ≡ Less → (a < b) ⊎ ((a ≡ b) × (m < n))
less_pair a m b n h =
    elim (cases_order a b) [
      | inr u ↦ elim u [
        | inl less ↦ inl less
        | inr more ↦ absurd (not_less (pair_cmp a m b n) (ap is_lt (first_greater a m b n more)) h)
      ]
      | inl same ↦ elim (cases_order m n) [
        | inl e ↦ absurd (not_less (pair_cmp a m b n) (ap is_lt (first_same a m b n same ∙ sym (nat_cmp_is m n Equal e))) h)
        | inr u ↦ elim u [
          | inl less ↦ inr (same, less)
          | inr more ↦ absurd (not_less (pair_cmp a m b n) (ap is_lt (first_same a m b n same ∙ sym (nat_cmp_is m n Greater more))) h)
        ]
      ]
    ]

-- cells have a level up to 30, so their places are before all of particles
abbrev IsShallow : Entry → Type 0
IsShallow (Cell c m) = c.level ≤ 30
IsShallow (One p) = ⊤

pair_before : (a m b n : ℕ) → pair_cmp a m b n ≡ Less → (ltb a b || (eqb a b && ltb m n)) ≡ true
pair_before a m b n h =
    elim (less_pair a m b n h) [
      | inl less ↦ or_left _ _ (lt-ltb a b less)
      | inr both ↦ or_right _ _ (and_from _ _ (eq-eqb a b both.0) (lt-ltb m n both.1))
    ]

before_from_less : (e f : Entry) → IsShallow f → by_place e f ≡ Less → comes_before e f ≡ true
before_from_less (Cell c m) (Cell d n) shallow h = pair_before c.level c.key d.level d.key h
before_from_less (Cell c m) (One q) shallow h = refl
before_from_less (One p) (Cell d n) shallow h =
    elim (less_pair 31 p.id d.level d.key h) [ inl less ↦ absurd (omega arith) | inr both ↦ absurd (omega (arith, both.0)) ]
before_from_less (One p) (One q) shallow h =
    elim (less_pair 31 p.id 31 q.id h) [ inl less ↦ absurd (omega arith) | inr both ↦ lt-ltb p.id q.id both.1 ]

abbrev IsLow : Option ℕ → Type 0
IsLow None = ⊤
IsLow (Some level) = level ≤ 30

-- entries of particles that stand at one place are one
one_at_place : ParticlesOfOneIdAreOne → (t : Criterion) (box : Bounds) (js : List Particle) → HaveDistinctIds js → (p q : Particle) (o r : Option ℕ) → Contains js p → Contains js q → IsLow o → IsLow r → same_place (entry_at t box js p o) (entry_at t box js q r) ≡ true → entry_at t box js q r ≡ entry_at t box js p o
one_at_place ids t box js distinct p q None None h k low high e = ap One (sym (ids js p q distinct h k (eqb-true p.id q.id (and_parts (nat_eq 31 31) (nat_eq p.id q.id) e).1)))
one_at_place ids t box js distinct p q None (Some n) h k low high e = absurd (let same = eqb-true 31 n (and_parts _ _ e).0 in omega arith)
one_at_place ids t box js distinct p q (Some m) None h k low high e = absurd (let same = eqb-true m 31 (and_parts _ _ e).0 in omega arith)
one_at_place ids t box js distinct p q (Some m) (Some n) h k low high e =
    let level : n ≡ m = sym (eqb-true m n (and_parts _ _ e).0) in
    let key : (cell_at q.at n).key ≡ (cell_at p.at m).key = sym (eqb-true (cell_at p.at m).key (cell_at q.at n).key (and_parts _ _ e).1) in
    let cell : cell_at q.at n ≡ cell_at p.at m = λ i. record { level = level i; key = key i } in
    ap (λ (c : Octant). Cell c (moment_of (filter (leads_to_cell t box c) js))) cell

low_level : LevelsAreLeast → (t : Criterion) (box : Bounds) (p : Particle) (o : Option ℕ) → level_of t box p.at ≡ o → IsLow o
low_level laws t box p None e = tt
low_level laws t box p (Some level) e = (((laws t box p.at).1 level).0 e).within

shallow_entry : (t : Criterion) (box : Bounds) (js : List Particle) (p : Particle) (o : Option ℕ) → IsLow o → IsShallow (entry_at t box js p o)
shallow_entry t box js p None low = tt
shallow_entry t box js p (Some level) low = low

pairs_from_strict : {X : Type 0} (R : X → X → Ordering) (xs : List X) → IsStrictlySortedBy R xs → AllPairs (λ x y. R x y ≡ Less) xs
unfolding IsStrictlySortedBy
pairs_from_strict R [] h = λ i j d less within. absurd (omega arith)
pairs_from_strict R (x ∷ xs) h =
    AllPairs-cons (λ a b. R a b ≡ Less) x xs (All-from_recursion (λ y. R x y ≡ Less) xs h.0) (pairs_from_strict R xs h.1)

-- the entries of particles, sorted and each once, are their list
pub list_from_sort : ParticlesOfOneIdAreOne → LevelsAreLeast → ListsHoldTheirEntries → (t : Criterion) (box : Bounds) (js : List Particle) → HaveDistinctIds js → (raw sorted : List Entry) → HasEntriesOf t box js raw → IsPermutation raw sorted → IsSortedBy is_earlier sorted → dedup same_place sorted ≡ list_of t box js
list_from_sort ids levels laws t box js distinct raw sorted has same order =
    let f = entry_of t box js in
    let low : (p : Particle) → IsLow (level_of t box p.at) = λ p. low_level levels t box p (level_of t box p.at) refl in
    let sound : (e : Entry) → Contains (dedup same_place sorted) e → (j : Particle) × Contains js j × (e ≡ f j) = λ e h.
    has.sound e (Contains-permutation sorted raw e (IsPermutation-sym raw sorted same) (Contains-from_dedup same_place sorted e h)) in
    let pairs = pairs_from_strict by_place (dedup same_place sorted) (IsStrictlySortedBy-dedup by_place-total same_place-ties sorted order) in
    (laws t box js (dedup same_place sorted) distinct).0 (record {
      ordered = λ i j d less within.
          let e = get_or (dedup same_place sorted) j d in
          let from = sound e (j, within, get_or_default (dedup same_place sorted) j e d within) in
          let shallow = subst IsShallow (sym from.2) (shallow_entry t box js from.0 (level_of t box from.0.at) (low from.0)) in
          before_from_less (get_or (dedup same_place sorted) i d) e shallow (pairs i j d less within);
      complete = λ j h.
          let there = Contains-permutation raw sorted (f j) same (has.complete j h) in
          let kept = Any-dedup same_place-equiv sorted (f j) there in
          let e = kept.1 in
          let from = sound e (kept.0, kept.2, kept.3) in
          let at : same_place (f j) (f from.0) ≡ true = subst (λ (v : Entry). same_place (f j) v ≡ true) from.2 kept.4 in
          let one : f from.0 ≡ f j = one_at_place ids t box js distinct j from.0 (level_of t box j.at) (level_of t box from.0.at) h from.1 (low j) (low from.0) at in
          subst (Contains (dedup same_place sorted)) (from.2 ∙ one) (kept.0, kept.2, kept.3);
      sound = sound;
    })
