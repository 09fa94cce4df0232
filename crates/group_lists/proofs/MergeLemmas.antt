-- Two lists in order merged from the front.
use Rattle.std.proofs.Common.{◌≡◌, ℕ, zero, suc, ◌+◌, ◌<◌, ◌≤◌, Bool, true, false, not, List, [], ◌∷◌, ◌++◌, length, get_or, drop, ◌⊎◌, inl, inr, ◌&&◌, ◌||◌, refl, sym, ◌∙◌, ap, subst, arith, ltb, eqb}
use Rattle.std.specs.List.Sorted.{IsPartitionedBy}
use Rattle.std.proofs.lemmas.Bool.{cases_lt, cases_order, cond-true, cond-false, cond_both, ltb-true, ltb-false, lt-ltb, eqb-true, eq-eqb, or_cases, or_left, or_right, and_parts, and_from, true≢false, false_from_ne_true, both_ways, not-true, not_from_false}
use Rattle.std.proofs.lemmas.List.{drop_more, drop_all, append_assoc, append-nil}
use Rattle.pf_geom.specs.Octant.{Octant}
use Rattle.pf_model.specs.Totals.{Totals}
use Rattle.pf_model.specs.declared.entry.Entry.{Entry}
use Rattle.pf_model.specs.declared.entry.Entry.TheVariants.{Cell, One}
use Rattle.pf_model.specs.Interaction.{comes_before, IsInListOrder}
use Rattle.model_laws.specs.ListLaws.{EntryOrderIsStrict}
use Rattle.pf_model.specs.Merging.{joined, with_entry, merged, is_level}
use Rattle.group_lists.specs.Pieces.{IsNextOfBoth}
use Rattle.group_lists.proofs.SearchLemmas.{StandFirst}

-- what the order of two pairs of numbers means
abbrev PairBelow : ℕ → ℕ → ℕ → ℕ → Type 0
PairBelow a m b n = (a < b) ⊎ ((a ≡ b) × (m < n))

abbrev pair_before : ℕ → ℕ → ℕ → ℕ → Bool
pair_before a m b n = ltb a b || (eqb a b && ltb m n)

pair_below : (a m b n : ℕ) → pair_before a m b n ≡ true → PairBelow a m b n
pair_below a m b n e =
    elim (or_cases _ _ e) [
      | inl h ↦ inl (ltb-true a b h)
      | inr h ↦ inr (eqb-true a b (and_parts _ _ h).0, ltb-true m n (and_parts _ _ h).1)
    ]

pair_before_from : (a m b n : ℕ) → PairBelow a m b n → pair_before a m b n ≡ true
pair_before_from a m b n (inl h) = or_left _ _ (lt-ltb a b h)
pair_before_from a m b n (inr h) = or_right _ _ (and_from _ _ (eq-eqb a b h.0) (lt-ltb m n h.1))

not_pair : (a m b n : ℕ) → pair_before a m b n ≡ false → PairBelow a m b n → ⊥
not_pair a m b n e h = both_ways (pair_before a m b n) e (pair_before_from a m b n h)

pair_level : (a m b n : ℕ) → (PairBelow a m b n → ⊥) → (PairBelow b n a m → ⊥) → (a ≡ b) × (m ≡ n)
pair_level a m b n h k =
    elim (cases_order a b) [
      | inl same ↦ elim (cases_order m n) [
        | inl e ↦ (same, e)
        | inr u ↦ elim u [ inl less ↦ absurd (h (inr (same, less))) | inr more ↦ absurd (k (inr (sym same, more))) ]
      ]
      | inr u ↦ elim u [ inl less ↦ absurd (h (inl less)) | inr more ↦ absurd (k (inl more)) ]
    ]

not_after : EntryOrderIsStrict → (e f : Entry) → comes_before e f ≡ true → comes_before f e ≡ false
not_after strict e f h = false_from_ne_true (comes_before f e) (λ k. strict.irreflexive e (strict.transitive e f e h k))

-- cells at one place are one
pub level_octant : (c d : Octant) (m n : Totals) → comes_before (Cell c m) (Cell d n) ≡ false → comes_before (Cell d n) (Cell c m) ≡ false → d ≡ c
level_octant c d m n h k =
    let same = pair_level c.level c.key d.level d.key (not_pair c.level c.key d.level d.key h) (not_pair d.level d.key c.level c.key k) in
    λ i. record { level = sym same.0 i; key = sym same.1 i }

-- what comes after an entry comes after one that stands at its place
pub level_before : (e f g : Entry) → comes_before e f ≡ false → comes_before f e ≡ false → comes_before e g ≡ true → comes_before f g ≡ true
level_before (Cell c m) (Cell d n) (Cell b o) h k l =
    let same = pair_level c.level c.key d.level d.key (not_pair c.level c.key d.level d.key h) (not_pair d.level d.key c.level c.key k) in
    pair_before_from d.level d.key b.level b.key (elim (pair_below c.level c.key b.level b.key l) [
      | inl less ↦ inl (omega (arith, same.0))
      | inr both ↦ inr (omega (arith, same.0, both.0), omega (arith, same.1, both.1))
    ])
level_before (Cell c m) (Cell d n) (One r) h k l = refl
level_before (Cell c m) (One q) g h k l = absurd (true≢false h)
level_before (One p) (Cell d n) g h k l = absurd (true≢false k)
level_before (One p) (One q) (Cell b o) h k l = l
level_before (One p) (One q) (One r) h k l =
    lt-ltb q.id r.id (let a = ltb-false p.id q.id h in let b = ltb-false q.id p.id k in let c = ltb-true p.id r.id l in omega arith)

-- an entry comes before all of a list
abbrev pub BeforeAll : Entry → List Entry → Type 0
BeforeAll e [] = Unit {0}
BeforeAll e (f ∷ fs) = (comes_before e f ≡ true) × BeforeAll e fs

-- a list in order, by recursion
abbrev pub Ascends : List Entry → Type 0
Ascends [] = Unit {0}
Ascends (e ∷ es) = BeforeAll e es × Ascends es

before_each : (e : Entry) (es : List Entry) → ((k : ℕ) (d : Entry) → k < length es → comes_before e (get_or es k d) ≡ true) → BeforeAll e es
before_each e [] h = tt
before_each e (f ∷ fs) h = (h 0 f (omega arith), before_each e fs (λ k d within. h (suc k) d (omega arith)))

pub ascends : (es : List Entry) → IsInListOrder es → Ascends es
ascends [] h = tt
ascends (e ∷ es) h = (before_each e es (λ k d within. h 0 (suc k) d (omega arith) (omega arith)), ascends es (λ i j d less within. h (suc i) (suc j) d (omega arith) (omega arith)))

pub ascends-drop : (k : ℕ) (es : List Entry) → Ascends es → Ascends (drop k es)
ascends-drop zero es h = h
ascends-drop (suc k) [] h = tt
ascends-drop (suc k) (e ∷ es) h = ascends-drop k es h.1

before_later : EntryOrderIsStrict → (e f : Entry) (fs : List Entry) → comes_before e f ≡ true → BeforeAll f fs → BeforeAll e fs
before_later strict e f [] h all = tt
before_later strict e f (g ∷ gs) h all = (strict.transitive e f g h all.0, before_later strict e f gs h all.1)

level_before_all : (e f : Entry) (es : List Entry) → comes_before e f ≡ false → comes_before f e ≡ false → BeforeAll e es → BeforeAll f es
level_before_all e f [] h k all = tt
level_before_all e f (g ∷ gs) h k all = (level_before e f g h k all.0, level_before_all e f gs h k all.1)

-- joined entries stand at the later one's place
before_joined : (g e f : Entry) → comes_before g f ≡ true → comes_before g (joined e f) ≡ true
before_joined (Cell b o) (Cell c m) (Cell d n) h = h
before_joined (One r) (Cell c m) (Cell d n) h = h
before_joined g (Cell c m) (One q) h = h
before_joined g (One p) f h = h

before_with : (g e : Entry) (fs : List Entry) → comes_before g e ≡ true → BeforeAll g fs → BeforeAll g (with_entry e fs)
before_with g e [] h all = (h, tt)
before_with g e (f ∷ fs) h all =
    cond_both (comes_before e f) _ _ (BeforeAll g) (λ _. (h, all)) (λ _.
    cond_both (comes_before f e) _ _ (BeforeAll g) (λ _. (all.0, before_with g e fs h all.1)) (λ _. (before_joined g e f all.0, all.1)))

before_merged : (g : Entry) (es fs : List Entry) → BeforeAll g es → BeforeAll g fs → BeforeAll g (merged es fs)
unfolding merged
before_merged g [] fs h all = all
before_merged g (e ∷ es) fs h all = before_with g e (merged es fs) h.0 (before_merged g es fs h.1 all)

with_first : (e : Entry) (fs : List Entry) → BeforeAll e fs → with_entry e fs ≡ e ∷ fs
with_first e [] h = refl
with_first e (f ∷ fs) h = cond-true (comes_before e f) _ _ h.0

-- the first of the one list comes first
pub merged-first : (e : Entry) (es fs : List Entry) → BeforeAll e es → BeforeAll e fs → merged (e ∷ es) fs ≡ e ∷ merged es fs
unfolding merged
merged-first e es fs h k = with_first e (merged es fs) (before_merged e es fs h k)

pub merged-none : (es : List Entry) → Ascends es → merged es [] ≡ es
unfolding merged
merged-none [] h = refl
merged-none (e ∷ es) h = ap (with_entry e) (merged-none es h.1) ∙ with_first e es h.0

-- the first of the other comes first
pub merged-second : EntryOrderIsStrict → (f : Entry) (es fs : List Entry) → BeforeAll f es → merged es (f ∷ fs) ≡ f ∷ merged es fs
unfolding merged
merged-second strict f [] fs h = refl
merged-second strict f (e ∷ es) fs h =
    ap (with_entry e) (merged-second strict f es fs h.1)
    ∙ cond-false (comes_before e f) _ _ (not_after strict f e h.0) ∙ cond-true (comes_before f e) _ _ h.0

-- the first of both stand at one place
pub merged-both : EntryOrderIsStrict → (e f : Entry) (es fs : List Entry) → comes_before e f ≡ false → comes_before f e ≡ false → BeforeAll e es → merged (e ∷ es) (f ∷ fs) ≡ joined e f ∷ merged es fs
unfolding merged
merged-both strict e f es fs h k all =
    ap (with_entry e) (merged-second strict f es fs (level_before_all e f es h k all))
    ∙ cond-false (comes_before e f) _ _ h ∙ cond-false (comes_before f e) _ _ k

-- what the front of a list in order is from a place on
pub front_of : (es : List Entry) (k : ℕ) (e : Entry) → Ascends es → k < length es → e ≡ get_or es k e → (drop k es ≡ e ∷ drop (k + 1) es) × BeforeAll e (drop (k + 1) es)
front_of es k e h within at =
    let front : drop k es ≡ e ∷ drop (k + 1) es = drop_more es k e within ∙ ap (λ (f : Entry). f ∷ drop (k + 1) es) (sym at) in
    let rest : Ascends (e ∷ drop (k + 1) es) = subst Ascends front (ascends-drop k es h) in
    (front, rest.0)

module _ (strict : EntryOrderIsStrict) (es fs : List Entry) (up : Ascends es) (fup : Ascends fs) (i k : ℕ) (i_in : i ≤ length es) (k_in : k ≤ length fs) where
  -- only the other list has more
  pub next_second : (f : Entry) → length es ≤ i → k < length fs → f ≡ get_or fs k f → IsNextOfBoth es fs i k f i (k + 1)
  next_second f done within at =
      let none : drop i es ≡ [] = drop_all i es done in
      let front = front_of fs k f fup within at in
      record {
        first_within = i_in;
        second_within = omega arith;
        later = omega arith;
        rest = ap (λ (x : List Entry). merged x (drop k fs)) none ∙ ap (merged []) front.0 ∙ merged-second strict f [] (drop (k + 1) fs) tt
            ∙ ap (λ (x : List Entry). f ∷ merged x (drop (k + 1) fs)) (sym none);
      }

  -- only the one list has more
  pub next_first : (e : Entry) → length fs ≤ k → i < length es → e ≡ get_or es i e → IsNextOfBoth es fs i k e (i + 1) k
  next_first e done within at =
      let none : drop k fs ≡ [] = drop_all k fs done in
      let front = front_of es i e up within at in
      record {
        first_within = omega arith;
        second_within = k_in;
        later = omega arith;
        rest = ap (merged (drop i es)) none ∙ ap (λ (x : List Entry). merged x []) front.0 ∙ merged-first e (drop (i + 1) es) [] front.1 tt
            ∙ ap (λ (x : List Entry). e ∷ merged (drop (i + 1) es) x) (sym none);
      }

  module _ (e f : Entry) (i_less : i < length es) (k_less : k < length fs) (e_at : e ≡ get_or es i e) (f_at : f ≡ get_or fs k f) where
    both_fronts : merged (drop i es) (drop k fs) ≡ merged (e ∷ drop (i + 1) es) (f ∷ drop (k + 1) fs)
    both_fronts n = merged ((front_of es i e up i_less e_at).0 n) ((front_of fs k f fup k_less f_at).0 n)

    pub next_before : comes_before e f ≡ true → IsNextOfBoth es fs i k e (i + 1) k
    next_before h =
        let mine = front_of es i e up i_less e_at in
        let other = front_of fs k f fup k_less f_at in
        record {
          first_within = omega arith;
          second_within = k_in;
          later = omega arith;
          rest = both_fronts ∙ merged-first e (drop (i + 1) es) (f ∷ drop (k + 1) fs) mine.1 (h, before_later strict e f (drop (k + 1) fs) h other.1)
              ∙ ap (λ (x : List Entry). e ∷ merged (drop (i + 1) es) x) (sym other.0);
        }

    pub next_after : comes_before f e ≡ true → IsNextOfBoth es fs i k f i (k + 1)
    next_after h =
        let mine = front_of es i e up i_less e_at in
        record {
          first_within = i_in;
          second_within = omega arith;
          later = omega arith;
          rest = both_fronts ∙ merged-second strict f (e ∷ drop (i + 1) es) (drop (k + 1) fs) (h, before_later strict f e (drop (i + 1) es) h mine.1)
              ∙ ap (λ (x : List Entry). f ∷ merged x (drop (k + 1) fs)) (sym mine.0);
        }

    pub next_joined : comes_before e f ≡ false → comes_before f e ≡ false → IsNextOfBoth es fs i k (joined e f) (i + 1) (k + 1)
    next_joined h g =
        let mine = front_of es i e up i_less e_at in
        record {
          first_within = omega arith;
          second_within = omega arith;
          later = omega arith;
          rest = both_fronts ∙ merged-both strict e f (drop (i + 1) es) (drop (k + 1) fs) h g mine.1;
        }

nothing_left : (es fs : List Entry) → es ≡ [] → fs ≡ [] → merged es fs ≡ []
unfolding merged
nothing_left es fs e f i = merged (e i) (f i)

-- the list so far and what is left to merge
pub record IsMergedSoFar (es fs : List Entry) (i k : ℕ) (done : List Entry) : Type 0 where
  pub first_within : i ≤ length es
  pub second_within : k ≤ length fs
  pub all : done ++ merged (drop i es) (drop k fs) ≡ merged es fs

pub merged_none_yet : (es fs done : List Entry) → done ≡ [] → IsMergedSoFar es fs 0 0 done
merged_none_yet es fs done none = record {
  first_within = omega arith;
  second_within = omega arith;
  all = ap (λ (x : List Entry). x ++ merged es fs) none;
}

pub merged_more : (es fs : List Entry) (i k i_next k_next : ℕ) (done more : List Entry) (e : Entry) → IsMergedSoFar es fs i k done → IsNextOfBoth es fs i k e i_next k_next → more ≡ done ++ e ∷ [] → IsMergedSoFar es fs i_next k_next more
merged_more es fs i k i_next k_next done more e before next pushed =
    let left = merged (drop i_next es) (drop k_next fs) in
    record {
      first_within = next.first_within;
      second_within = next.second_within;
      all = ap (λ (x : List Entry). x ++ left) pushed ∙ append_assoc done (e ∷ []) left ∙ ap (λ (x : List Entry). done ++ x) (sym next.rest) ∙ before.all;
    }

pub merged_all : (es fs : List Entry) (i k : ℕ) (done : List Entry) → IsMergedSoFar es fs i k done → length es + length fs ≤ i + k → done ≡ merged es fs
merged_all es fs i k done before end =
    let first = before.first_within in
    let second = before.second_within in
    let none : merged (drop i es) (drop k fs) ≡ [] = nothing_left (drop i es) (drop k fs) (drop_all i es (omega arith)) (drop_all k fs (omega arith)) in
    sym (append-nil done) ∙ ap (λ (x : List Entry). done ++ x) (sym none) ∙ before.all

-- the entries before a place in the order of lists
pub earlier_first : EntryOrderIsStrict → (e : Entry) (fs : List Entry) → IsInListOrder fs → IsPartitionedBy (λ f. comes_before f e) fs
earlier_first strict e fs order i j d least within h =
    elim (cases_lt i j) [
      | inl less ↦ strict.transitive (get_or fs i d) (get_or fs j d) e (order i j d less within) h
      | inr more ↦ (let same : i ≡ j = omega arith in ap (λ (k : ℕ). comes_before (get_or fs k d) e) same ∙ h)
    ]

-- the entry at a place stands first of those that don't come before it
pub level_stands_first : EntryOrderIsStrict → (e : Entry) (fs : List Entry) → IsInListOrder fs → StandFirst (λ f. comes_before f e) (is_level e) fs
level_stands_first strict e fs order = record {
  apart = λ f level before. both_ways (comes_before f e) (not-true _ (and_parts _ _ level).1) before;
  first = λ j k d least within later level.
      let at_k = not-true _ (and_parts _ _ level).0 in
      let at_j : comes_before e (get_or fs j d) ≡ false = false_from_ne_true _ (λ h. elim (cases_lt j k) [
        | inl less ↦ both_ways _ at_k (strict.transitive e (get_or fs j d) (get_or fs k d) h (order j k d less within))
        | inr more ↦ (let same : j ≡ k = omega arith in both_ways _ at_k (ap (λ (n : ℕ). comes_before e (get_or fs n d)) (sym same) ∙ h))
      ]) in
      and_from _ _ (not_from_false _ at_j) (not_from_false _ later);
}

and_true : (b : Bool) → (b && true) ≡ b
and_true true = refl
and_true false = refl

-- an entry that doesn't come before another is level with it, unless the other comes before it
pub level_is : (e f : Entry) → comes_before f e ≡ false → is_level e f ≡ not (comes_before e f)
level_is e f h = ap (λ (b : Bool). not (comes_before e f) && not b) h ∙ and_true (not (comes_before e f))
