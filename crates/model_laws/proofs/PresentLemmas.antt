-- Particles of a build where they are later.
use Rattle.std.proofs.Common.{◌≡◌, ℕ, Bool, true, false, cond, ◌||◌, List, [], ◌∷◌, ◌++◌, map, inl, inr, Option, Some, unwrap_or, refl, sym, ◌∙◌, ap, subst}
use Rattle.std.specs.List.{filter, find, list_any, IsDistinct}
use Rattle.std.specs.List.Sorted.{IsPermutation}
use Rattle.std.specs.Prelude.{nat_eq}
use Rattle.std.proofs.lemmas.Bool.{cond_both, cond-true, cond-false, eqb-true, eq-eqb, ne_eqb, or_cases, or_left, false_from_ne_true, false≢true}
use Rattle.std.proofs.lemmas.Map.Keys.{IsDistinct-IsPermutation}
use Rattle.std.proofs.lemmas.List.Elements.{filter_agree}
use Rattle.std.proofs.lemmas.List.Folds.{list_any-append}
use Rattle.std.proofs.lemmas.List.Sorted.{IsPermutation-refl, IsPermutation-cons, IsPermutation-sym, IsPermutation-trans, Contains-permutation, list_any-IsPermutation}
use Rattle.pf_model.specs.Particle.{Particle}
use Rattle.pf_model.specs.Particles.{HaveDistinctIds, HaveSameIds}
use Rattle.pf_model.specs.declared.entry.Entry.TheVariants.{One}
use Rattle.pf_model.specs.Reuse.{as_in, present}
use Rattle.model_laws.specs.ReuseLaws.{PresentIgnoresOrder, PresentOfSomeStaySome, PresentAreFound, PresentEntriesAreFound}
use Rattle.order_laws.proofs.OrderLemmas.{In}
use Rattle.order_laws.proofs.ElementLemmas.{in_from_contains, contains_from_in, eqb_flips, in_filter}
use Rattle.order_laws.proofs.PermutationLemmas.{IsPermutation-filter, either_filter}
use Rattle.pf_model.proofs.EntryLemmas.{ids_differ}
use Rattle.model_laws.proofs.ReuseLemmas.{list_any-from_in, in_from_list_any}
use Rattle.model_laws.proofs.SufficiencyLemmas.{filter_none, none_pass}

-- whether a particle has the id of one of these
abbrev pub has_id_in : List Particle → Particle → Bool
has_id_in js p = list_any (λ j. nat_eq p.id j.id) js

in_map : {X Y : Type 0} (f : X → Y) (xs : List X) (x : X) → In x xs → In (f x) (map f xs)
in_map f [] x i = absurd i
in_map f (y ∷ ys) x (inl e) = inl (ap f e)
in_map f (y ∷ ys) x (inr h) = inr (in_map f ys x h)

from_map : {X Y : Type 0} (f : X → Y) (xs : List X) (y : Y) → In y (map f xs) → (x : X) × In x xs × (f x ≡ y)
from_map f [] y i = absurd i
from_map f (x ∷ xs) y (inl e) = (x, inl refl, e)
from_map f (x ∷ xs) y (inr h) = let rest = from_map f xs y h in (rest.0, inr rest.1, rest.2)

-- particles of a build, and where all of them are
pub record AreNow (js now : List Particle) : Type 0 where
  pub distinct : HaveDistinctIds now
  pub there : (j : Particle) → In j js → (q : Particle) × In q now × (q.id ≡ j.id)

pub are_now : (js now : List Particle) → HaveDistinctIds js → HaveSameIds js now → AreNow js now
are_now js now distinct same =
    let id = λ (j : Particle). j.id in
    record {
      distinct = IsDistinct-IsPermutation nat_eq eqb_flips (map id js) (map id now) same distinct;
      there = λ j i.
          let inside = Contains-permutation (map id js) (map id now) j.id same (contains_from_in (map id js) j.id (in_map id js j i)) in
          from_map id now j.id (in_from_contains (map id now) j.id inside);
    }

pub some_are_now : (ks js now : List Particle) → ((j : Particle) → In j ks → In j js) → AreNow js now → AreNow ks now
some_are_now ks js now some h = record { distinct = h.distinct; there = λ j i. h.there j (some j i) }

-- the one with an id is found
pub found_among : (now : List Particle) → HaveDistinctIds now → (id : ℕ) (q : Particle) → In q now → q.id ≡ id → find (λ r. nat_eq id r.id) now ≡ Some q
unfolding IsDistinct
found_among [] distinct id q i same = absurd i
found_among (r ∷ rs) distinct id q (inl e) same =
    cond-true (nat_eq id r.id) (Some r) (find (λ p. nat_eq id p.id) rs) (eq-eqb id r.id (sym same ∙ ap (λ (p : Particle). p.id) (sym e))) ∙ ap Some e
found_among (r ∷ rs) distinct id q (inr h) same =
    cond-false (nat_eq id r.id) (Some r) (find (λ p. nat_eq id p.id) rs) (ne_eqb id r.id (λ e. ids_differ r rs q h distinct.0 (sym e ∙ sym same)))
    ∙ found_among rs distinct.1 id q h same

same_from_either : (m n : ℕ) → (nat_eq m n || false) ≡ true → m ≡ n
same_from_either m n e = elim (or_cases (nat_eq m n) false e) [ inl h ↦ eqb-true m n h | inr h ↦ absurd (false≢true h) ]

-- and is all that is present of it
pub present_of_one : (now : List Particle) → HaveDistinctIds now → (p q : Particle) → In q now → q.id ≡ p.id → present now (p ∷ []) ≡ q ∷ []
unfolding IsDistinct
present_of_one [] distinct p q i same = absurd i
present_of_one (r ∷ rs) distinct p q (inl e) same =
    let test = has_id_in (p ∷ []) in
    let here : r.id ≡ p.id = ap (λ (v : Particle). v.id) e ∙ same in
    cond-true (test r) (r ∷ filter test rs) (filter test rs) (or_left (nat_eq r.id p.id) false (eq-eqb r.id p.id here))
    ∙ ap (λ l. r ∷ l) (none_pass test rs (λ k i. false_from_ne_true (test k) (λ f. ids_differ r rs k i distinct.0 (here ∙ sym (same_from_either k.id p.id f)))))
    ∙ ap (λ (v : Particle). v ∷ []) e
present_of_one (r ∷ rs) distinct p q (inr h) same =
    let test = has_id_in (p ∷ []) in
    cond-false (test r) (r ∷ filter test rs) (filter test rs) (false_from_ne_true (test r) (λ f. ids_differ r rs q h distinct.0 (same_from_either r.id p.id f ∙ sym same)))
    ∙ present_of_one rs distinct.1 p q h same

pub present_entries_are_found : PresentEntriesAreFound
present_entries_are_found now members p q distinct inside same =
    ap (λ (o : Option Particle). One (unwrap_or o p)) (found_among now distinct p.id q (in_from_contains now q inside) same)

-- the order of those of the build changes nothing in what is present of them
pub present_permuted : (now js ks : List Particle) → IsPermutation js ks → present now js ≡ present now ks
present_permuted now js ks h = filter_agree (has_id_in js) (has_id_in ks) (λ p. list_any-IsPermutation (λ j. nat_eq p.id j.id) js ks h) now

pub present_ignores_order : PresentIgnoresOrder
present_ignores_order now later js ks h same =
    subst (λ (l : List Particle). IsPermutation (present now js) l) (present_permuted later js ks same) (IsPermutation-filter (has_id_in js) now later h)

-- no particle of the one list has the id of one of the other
abbrev pub AreApart : List Particle → List Particle → Type 0
AreApart js ks = (j k : Particle) → In j js → In k ks → j.id ≡ k.id → ⊥

-- what is present of some and of others
pub present-append : (now js ks : List Particle) → AreApart js ks → IsPermutation (present now (js ++ ks)) (present now js ++ present now ks)
present-append now js ks apart =
    let either = filter_agree (has_id_in (js ++ ks)) (λ p. has_id_in js p || has_id_in ks p) (λ p. list_any-append (λ j. nat_eq p.id j.id) js ks) now in
    subst (λ (l : List Particle). IsPermutation l (present now js ++ present now ks)) (sym either)
    (either_filter (has_id_in js) (has_id_in ks) now (λ p _ e f.
    (let one = in_from_list_any (λ (j : Particle). nat_eq p.id j.id) js e in
    let other = in_from_list_any (λ (j : Particle). nat_eq p.id j.id) ks f in
    apart one.0 other.0 one.1 other.1 (sym (eqb-true p.id one.0.id one.2) ∙ eqb-true p.id other.0.id other.2))))

-- a test that keeps no more than another keeps the same of what the other keeps
filter_of_filter : {X : Type 0} (p q : X → Bool) (xs : List X) → ((x : X) → p x ≡ true → q x ≡ true) → filter p (filter q xs) ≡ filter p xs
filter_of_filter p q [] more = refl
filter_of_filter {X} p q (x ∷ xs) more =
    let rest = filter_of_filter p q xs more in
    cond_both (q x) (x ∷ filter q xs) (filter q xs) (λ (l : List X). filter p l ≡ filter p (x ∷ xs))
    (λ _. ap (λ l. cond (p x) (x ∷ l) l) rest)
    (λ no. rest ∙ sym (cond-false (p x) (x ∷ filter p xs) (filter p xs) (false_from_ne_true (p x) (λ e. false≢true (sym no ∙ more x e)))))

-- what is present of some of them is so among what is present of all
pub present_of_some_stay_some : PresentOfSomeStaySome
present_of_some_stay_some test js now =
    filter_of_filter (has_id_in (filter test js)) (has_id_in js) now (λ p e.
    (let found = in_from_list_any (λ (j : Particle). nat_eq p.id j.id) (filter test js) e in
    list_any-from_in (λ (j : Particle). nat_eq p.id j.id) js found.0 (in_filter test found.0 js found.1).0 found.2))

one_apart : (j : Particle) (js : List Particle) → HaveDistinctIds (j ∷ js) → AreApart (j ∷ []) js
unfolding IsDistinct
one_apart j js distinct p k (inl e) i same = ids_differ j js k i distinct.0 (ap (λ (v : Particle). v.id) e ∙ same)
one_apart j js distinct p k (inr h) i same = absurd h

-- the particles found by their ids are those that are present
found_are_present : (js now : List Particle) → HaveDistinctIds js → AreNow js now → IsPermutation (map (as_in now) js) (present now js)
unfolding IsDistinct
found_are_present [] now distinct are = subst (IsPermutation []) (sym (filter_none now)) (IsPermutation-refl [])
found_are_present (j ∷ js) now distinct are =
    let q = are.there j (inl refl) in
    let found : as_in now j ≡ q.0 = ap (λ (o : Option Particle). unwrap_or o j) (found_among now are.distinct j.id q.0 q.1 q.2) in
    let rest = found_are_present js now distinct.1 (some_are_now js (j ∷ js) now (λ k i. inr i) are) in
    let both = present-append now (j ∷ []) js (one_apart j js distinct) in
    let one = ap (λ l. l ++ present now js) (present_of_one now are.distinct j q.0 q.1 q.2) ∙ ap (λ (v : Particle). v ∷ present now js) (sym found) in
    IsPermutation-trans (map (as_in now) (j ∷ js)) (as_in now j ∷ present now js) (present now (j ∷ js))
    (IsPermutation-cons (as_in now j) (map (as_in now) js) (present now js) rest)
    (subst (λ (l : List Particle). IsPermutation l (present now (j ∷ js))) one
    (IsPermutation-sym (present now (j ∷ js)) (present now (j ∷ []) ++ present now js) both))

pub present_are_found : PresentAreFound
present_are_found js ks now distinct distinct_ks some same =
    let are = are_now js now distinct same in
    found_are_present ks now distinct_ks (some_are_now ks js now (λ k i. in_from_contains js k (some k (contains_from_in ks k i))) are)
