-- Two lists in order put together.
use Rattle.std.proofs.Common.{◌≡◌, ℕ, suc, ◌+◌, Bool, true, false, cond, ◌||◌, List, [], ◌∷◌, length, inl, inr, ◌⊎◌, refl, sym, ◌∙◌, ap, subst, arith, ltb}
use Rattle.std.specs.List.{list_any}
use Rattle.std.proofs.lemmas.Bool.{cond_both, cond-true, cond-false, true≢false, ltb-false, and_parts, and_from, not-true, not_from_false, false_from_ne_true}
use Rattle.std.proofs.lemmas.List.Sums.{sum_by-cons}
use Rattle.pf_geom.specs.Octant.{Octant}
use Rattle.pf_model.specs.declared.entry.Entry.{Entry}
use Rattle.pf_model.specs.declared.entry.Entry.TheVariants.{Cell, One}
use Rattle.pf_model.specs.Interaction.{comes_before}
use Rattle.pf_model.specs.Merging.{joined, with_entry, merged, is_level, common_count}
use Rattle.order_laws.proofs.OrderLemmas.{In, BeforeAll, IsAscending, before_each}
use Rattle.pf_model.proofs.EntryLemmas.{comes_before-strict, pair-connected, same_cell}
use Rattle.model_laws.proofs.ListCellLemmas.{same_tests}
use Rattle.model_laws.proofs.ReuseLemmas.{list_any-from_in, in_from_list_any}

-- what an entry's place in a list is
abbrev pub SamePlace : Entry → Entry → Type 0
SamePlace (Cell c m) (Cell d n) = c ≡ d
SamePlace (Cell c m) (One q) = ⊥
SamePlace (One p) (Cell d n) = ⊥
SamePlace (One p) (One q) = p.id ≡ q.id

SamePlace-refl : (e : Entry) → SamePlace e e
SamePlace-refl (Cell c m) = refl
SamePlace-refl (One p) = refl

pub SamePlace-sym : (e f : Entry) → SamePlace e f → SamePlace f e
SamePlace-sym (Cell c m) (Cell d n) h = sym h
SamePlace-sym (Cell c m) (One q) h = absurd h
SamePlace-sym (One p) (Cell d n) h = absurd h
SamePlace-sym (One p) (One q) h = sym h

pub SamePlace-trans : (e f g : Entry) → SamePlace e f → SamePlace f g → SamePlace e g
SamePlace-trans (Cell c m) (Cell d n) (Cell b o) h k = h ∙ k
SamePlace-trans (Cell c m) (Cell d n) (One r) h k = absurd k
SamePlace-trans (Cell c m) (One q) g h k = absurd h
SamePlace-trans (One p) (Cell d n) g h k = absurd h
SamePlace-trans (One p) (One q) (Cell b o) h k = absurd k
SamePlace-trans (One p) (One q) (One r) h k = h ∙ k

-- the order goes by places alone
before_same : (e f g : Entry) → SamePlace e f → comes_before e g ≡ comes_before f g
before_same (Cell c m) (Cell d n) (Cell b o) h = ap (λ (x : Octant). comes_before (Cell x m) (Cell b o)) h
before_same (Cell c m) (Cell d n) (One r) h = refl
before_same (Cell c m) (One q) g h = absurd h
before_same (One p) (Cell d n) g h = absurd h
before_same (One p) (One q) (Cell b o) h = refl
before_same (One p) (One q) (One r) h = ap (λ (n : ℕ). ltb n r.id) h

after_same : (e f g : Entry) → SamePlace e f → comes_before g e ≡ comes_before g f
after_same (Cell c m) (Cell d n) (Cell b o) h = ap (λ (x : Octant). comes_before (Cell b o) (Cell x m)) h
after_same (Cell c m) (Cell d n) (One r) h = refl
after_same (Cell c m) (One q) g h = absurd h
after_same (One p) (Cell d n) g h = absurd h
after_same (One p) (One q) (Cell b o) h = refl
after_same (One p) (One q) (One r) h = ap (λ (n : ℕ). ltb r.id n) h

-- and entries of which neither comes before the other have one place
pub same_from_neither : (e f : Entry) → comes_before e f ≡ false → comes_before f e ≡ false → SamePlace e f
same_from_neither (Cell c m) (Cell d n) h k = let both = pair-connected c.level c.key d.level d.key h k in same_cell c d both.0 both.1
same_from_neither (Cell c m) (One q) h k = absurd (true≢false h)
same_from_neither (One p) (Cell d n) h k = absurd (true≢false k)
same_from_neither (One p) (One q) h k = (let a = ltb-false p.id q.id h in let b = ltb-false q.id p.id k in omega arith)

pub not_before_same : (e f : Entry) → SamePlace e f → comes_before e f ≡ true → ⊥
not_before_same e f same h = comes_before-strict.irreflexive f (sym (before_same e f f same) ∙ h)

-- joined entries stay at their place
joined_place : (e f : Entry) → SamePlace (joined e f) f
joined_place (Cell c m) (Cell d n) = refl
joined_place (Cell c m) (One q) = refl
joined_place (One p) f = SamePlace-refl f

before-with_entry : (g e : Entry) (fs : List Entry) → comes_before g e ≡ true → BeforeAll comes_before g fs → BeforeAll comes_before g (with_entry e fs)
before-with_entry g e [] h all = (h, tt)
before-with_entry g e (f ∷ fs) h all =
    cond_both (comes_before e f) _ _ (BeforeAll comes_before g) (λ _. (h, all)) (λ _.
    cond_both (comes_before f e) _ _ (BeforeAll comes_before g) (λ _. (all.0, before-with_entry g e fs h all.1))
    (λ _. (after_same (joined e f) f g (joined_place e f) ∙ all.0, all.1)))

pub before_all_later : (e f : Entry) (fs : List Entry) → comes_before e f ≡ true → BeforeAll comes_before f fs → BeforeAll comes_before e fs
before_all_later e f [] h all = tt
before_all_later e f (g ∷ gs) h all = (comes_before-strict.transitive e f g h all.0, before_all_later e f gs h all.1)

before_all_same : (e f : Entry) (fs : List Entry) → SamePlace e f → BeforeAll comes_before f fs → BeforeAll comes_before e fs
before_all_same e f [] same all = tt
before_all_same e f (g ∷ gs) same all = (before_same e f g same ∙ all.0, before_all_same e f gs same all.1)

ascends-with_entry : (e : Entry) (fs : List Entry) → IsAscending comes_before fs → IsAscending comes_before (with_entry e fs)
ascends-with_entry e [] a = (tt, tt)
ascends-with_entry e (f ∷ fs) a =
    cond_both (comes_before e f) _ _ (IsAscending comes_before) (λ h. ((h, before_all_later e f fs h a.0), a)) (λ _.
    cond_both (comes_before f e) _ _ (IsAscending comes_before) (λ h. (before-with_entry f e fs h a.0, ascends-with_entry e fs a.1))
    (λ _. (before_all_same (joined e f) f fs (joined_place e f) a.0, a.1)))

pub ascends-merged : (es fs : List Entry) → IsAscending comes_before fs → IsAscending comes_before (merged es fs)
unfolding merged
ascends-merged [] fs a = a
ascends-merged (e ∷ es) fs a = ascends-with_entry e (merged es fs) (ascends-merged es fs a)

-- an entry of the list that has the place of another
abbrev pub HasPlace : Entry → List Entry → Type 0
HasPlace e fs = (f : Entry) × In f fs × SamePlace e f

-- what an element of a list with an entry put into it is
abbrev IsPut : Entry → List Entry → Entry → Type 0
IsPut e fs x = ((x ≡ e) × (HasPlace e fs → ⊥)) ⊎ ((In x fs × (SamePlace e x → ⊥)) ⊎ ((f : Entry) × In f fs × SamePlace e f × (x ≡ joined e f)))

pub no_place_before : (e : Entry) (fs : List Entry) → BeforeAll comes_before e fs → HasPlace e fs → ⊥
no_place_before e fs all h = not_before_same e h.0 h.2 (before_each comes_before e fs h.0 h.1 all)

put_later : (e f : Entry) (fs : List Entry) (x : Entry) → (SamePlace e f → ⊥) → IsPut e fs x → IsPut e (f ∷ fs) x
put_later e f fs x apart (inl h) = inl (h.0, λ k. elim k.1 as (λ _. ⊥) [ inl s ↦ apart (subst (SamePlace e) (sym s) k.2) | inr i ↦ h.1 (k.0, i, k.2) ])
put_later e f fs x apart (inr (inl h)) = inr (inl (inr h.0, h.1))
put_later e f fs x apart (inr (inr h)) = inr (inr (h.0, inr h.1, h.2, h.3))

put-from : (e : Entry) (fs : List Entry) (x : Entry) → IsAscending comes_before fs → In x (with_entry e fs) → IsPut e fs x
put-from e [] x a (inl s) = inl (sym s, λ k. absurd k.1)
put-from e [] x a (inr i) = absurd i
put-from e (f ∷ fs) x a i =
    let P : List Entry → Type 0 = λ l. In x l → IsPut e (f ∷ fs) x in
    cond_both (comes_before e f) (e ∷ f ∷ fs) (cond (comes_before f e) (f ∷ with_entry e fs) (joined e f ∷ fs)) P
    (λ h j.
    let all : BeforeAll comes_before e (f ∷ fs) = (h, before_all_later e f fs h a.0) in
    elim j [
      | inl s ↦ inl (sym s, no_place_before e (f ∷ fs) all)
      | inr k ↦ inr (inl (k, λ same. not_before_same e x same (before_each comes_before e (f ∷ fs) x k all)))
    ])
    (λ no.
    cond_both (comes_before f e) (f ∷ with_entry e fs) (joined e f ∷ fs) P
    (λ h j.
    let apart : SamePlace e f → ⊥ = λ same. not_before_same f e (SamePlace-sym e f same) h in
    elim j [
      | inl s ↦ inr (inl (inl s, λ same. apart (subst (SamePlace e) (sym s) same)))
      | inr k ↦ put_later e f fs x apart (put-from e fs x a.1 k)
    ])
    (λ nor j.
    let same = same_from_neither e f no nor in
    elim j [
      | inl s ↦ inr (inr (f, inl refl, same, sym s))
      | inr k ↦ inr (inl (inr k, λ at. not_before_same f x (SamePlace-trans f e x (SamePlace-sym e f same) at) (before_each comes_before f fs x k a.0)))
    ]))
    i

put_in-later : (e f : Entry) (fs : List Entry) (x : Entry) → (SamePlace e f → ⊥) → (IsPut e fs x → In x (with_entry e fs)) → IsPut e (f ∷ fs) x → In x (f ∷ with_entry e fs)
put_in-later e f fs x apart later (inl h) = inr (later (inl (h.0, λ k. h.1 (k.0, inr k.1, k.2))))
put_in-later e f fs x apart later (inr (inl (inl s, away))) = inl s
put_in-later e f fs x apart later (inr (inl (inr i, away))) = inr (later (inr (inl (i, away))))
put_in-later e f fs x apart later (inr (inr (g, inl s, same, is))) = absurd (apart (subst (SamePlace e) (sym s) same))
put_in-later e f fs x apart later (inr (inr (g, inr i, same, is))) = inr (later (inr (inr (g, i, same, is))))

put_in-here : (e f : Entry) (fs : List Entry) (x : Entry) → SamePlace e f → BeforeAll comes_before f fs → IsPut e (f ∷ fs) x → In x (joined e f ∷ fs)
put_in-here e f fs x same all (inl h) = absurd (h.1 (f, inl refl, same))
put_in-here e f fs x same all (inr (inl (inl s, away))) = absurd (away (subst (SamePlace e) s same))
put_in-here e f fs x same all (inr (inl (inr i, away))) = inr i
put_in-here e f fs x same all (inr (inr (g, inl s, at, is))) = inl (ap (joined e) s ∙ sym is)
put_in-here e f fs x same all (inr (inr (g, inr i, at, is))) =
    absurd (not_before_same f g (SamePlace-trans f e g (SamePlace-sym e f same) at) (before_each comes_before f fs g i all))

put_in-first : (e f : Entry) (fs : List Entry) (x : Entry) → BeforeAll comes_before e (f ∷ fs) → IsPut e (f ∷ fs) x → In x (e ∷ f ∷ fs)
put_in-first e f fs x all (inl h) = inl (sym h.0)
put_in-first e f fs x all (inr (inl h)) = inr h.0
put_in-first e f fs x all (inr (inr h)) = absurd (no_place_before e (f ∷ fs) all (h.0, h.1, h.2))

put_in-alone : (e x : Entry) → IsPut e [] x → In x (e ∷ [])
put_in-alone e x (inl h) = inl (sym h.0)
put_in-alone e x (inr (inl h)) = absurd h.0
put_in-alone e x (inr (inr h)) = absurd h.1

put-in : (e : Entry) (fs : List Entry) (x : Entry) → IsAscending comes_before fs → IsPut e fs x → In x (with_entry e fs)
put-in e [] x a h = put_in-alone e x h
put-in e (f ∷ fs) x a h =
    cond_both (comes_before e f) (e ∷ f ∷ fs) (cond (comes_before f e) (f ∷ with_entry e fs) (joined e f ∷ fs)) (In x)
    (λ first. put_in-first e f fs x (first, before_all_later e f fs first a.0) h)
    (λ no.
    cond_both (comes_before f e) (f ∷ with_entry e fs) (joined e f ∷ fs) (In x)
    (λ later. put_in-later e f fs x (λ same. not_before_same f e (SamePlace-sym e f same) later) (put-in e fs x a.1) h)
    (λ nor. put_in-here e f fs x (same_from_neither e f no nor) a.0 h))

-- what stood at a place stays there, alone or joined
place_kept : (e : Entry) (fs : List Entry) (y : Entry) → In y fs → HasPlace y (with_entry e fs)
place_kept e [] y i = absurd i
place_kept e (f ∷ fs) y i =
    cond_both (comes_before e f) (e ∷ f ∷ fs) (cond (comes_before f e) (f ∷ with_entry e fs) (joined e f ∷ fs)) (HasPlace y)
    (λ _. (y, inr i, SamePlace-refl y))
    (λ _.
    cond_both (comes_before f e) (f ∷ with_entry e fs) (joined e f ∷ fs) (HasPlace y)
    (λ _. elim i [
      | inl s ↦ (y, inl s, SamePlace-refl y)
      | inr k ↦ (let rest = place_kept e fs y k in (rest.0, inr rest.1, rest.2))
    ])
    (λ _. elim i [
      | inl s ↦ (joined e f, inl refl, subst (λ (v : Entry). SamePlace v (joined e f)) s (SamePlace-sym (joined e f) f (joined_place e f)))
      | inr k ↦ (y, inr k, SamePlace-refl y)
    ]))

pub place_in_merged : (es fs : List Entry) (f : Entry) → In f fs → HasPlace f (merged es fs)
unfolding merged
place_in_merged [] fs f i = (f, i, SamePlace-refl f)
place_in_merged (e ∷ es) fs f i =
    let before = place_in_merged es fs f i in
    let after = place_kept e (merged es fs) before.0 before.1 in
    (after.0, after.1, SamePlace-trans f before.0 after.0 before.2 after.2)

-- what an element of two lists put together is
abbrev pub IsMerged : List Entry → List Entry → Entry → Type 0
IsMerged es fs x =
    (In x es × (HasPlace x fs → ⊥)) ⊎ ((In x fs × (HasPlace x es → ⊥)) ⊎ ((e : Entry) × (f : Entry) × In e es × In f fs × SamePlace e f × (x ≡ joined e f)))

pub not_among_later : (e : Entry) (es : List Entry) (g : Entry) → BeforeAll comes_before e es → In g es → SamePlace e g → ⊥
not_among_later e es g all i same = not_before_same e g same (before_each comes_before e es g i all)

-- an element of the merge at the place of an entry before all of the one list is of the other list alone
pub from_other_alone : (e : Entry) (es fs : List Entry) (y : Entry) → BeforeAll comes_before e es → SamePlace e y → IsMerged es fs y → In y fs
from_other_alone e es fs y all same (inl h) = absurd (not_among_later e es y all h.0 same)
from_other_alone e es fs y all same (inr (inl h)) = h.0
from_other_alone e es fs y all same (inr (inr (d, f, i, j, at, is))) =
    absurd (not_among_later e es d all i
    (SamePlace-trans e f d (SamePlace-trans e y f same (subst (λ (v : Entry). SamePlace v f) (sym is) (joined_place d f))) (SamePlace-sym d f at)))

keep_merged : (e : Entry) (es fs : List Entry) (x : Entry) → (SamePlace e x → ⊥) → IsMerged es fs x → IsMerged (e ∷ es) fs x
keep_merged e es fs x apart (inl h) = inl (inr h.0, h.1)
keep_merged e es fs x apart (inr (inl h)) =
    inr (inl (h.0, λ k. elim k.1 as (λ _. ⊥) [ inl s ↦ apart (subst (λ (v : Entry). SamePlace v x) (sym s) (SamePlace-sym x k.0 k.2)) | inr i ↦ h.1 (k.0, i, k.2) ]))
keep_merged e es fs x apart (inr (inr (d, f, i, j, at, is))) = inr (inr (d, f, inr i, j, at, is))

pub merged-from : (es fs : List Entry) (x : Entry) → IsAscending comes_before es → IsAscending comes_before fs → In x (merged es fs) → IsMerged es fs x
unfolding merged
merged-from [] fs x a b i = inr (inl (i, λ k. absurd k.1))
merged-from (e ∷ es) fs x a b i =
    let later = merged es fs in
    let rest : (y : Entry) → In y later → IsMerged es fs y = λ y j. merged-from es fs y a.1 b j in
    elim (put-from e later x (ascends-merged es fs b) i) [
      | inl h ↦ inl (
        inl (sym h.0),
        λ k.
            let there = place_in_merged es fs k.0 k.1 in
            let at : SamePlace e k.0 = subst (λ (v : Entry). SamePlace v k.0) h.0 k.2 in
            h.1 (there.0, there.1, SamePlace-trans e k.0 there.0 at there.2),
      )
      | inr h ↦ elim h [
        | inl k ↦ keep_merged e es fs x k.1 (rest x k.0)
        | inr k ↦ inr (inr (e, k.0, inl refl, from_other_alone e es fs k.0 a.0 k.2 (rest k.0 k.1), k.2, k.3))
      ]
    ]

merge_in-cases : (e : Entry) (es fs : List Entry) (x : Entry) → IsAscending comes_before (e ∷ es) → IsAscending comes_before fs → ((y : Entry) → IsMerged es fs y → In y (merged es fs)) → IsMerged (e ∷ es) fs x → IsPut e (merged es fs) x
merge_in-cases e es fs x a b rest (inl (inl s, away)) =
    inl (sym s, λ k. away (k.0, from_other_alone e es fs k.0 a.0 k.2 (merged-from es fs k.0 a.1 b k.1), subst (λ (v : Entry). SamePlace v k.0) s k.2))
merge_in-cases e es fs x a b rest (inl (inr i, away)) = inr (inl (rest x (inl (i, away)), λ same. not_among_later e es x a.0 i same))
merge_in-cases e es fs x a b rest (inr (inl (i, away))) =
    inr (inl (rest x (inr (inl (i, λ k. away (k.0, inr k.1, k.2)))), λ same. away (e, inl refl, SamePlace-sym e x same)))
merge_in-cases e es fs x a b rest (inr (inr (d, f, inl s, j, at, is))) =
    let same : SamePlace e f = subst (λ (v : Entry). SamePlace v f) (sym s) at in
    inr (inr (f, rest f (inr (inl (j, λ k. not_among_later e es k.0 a.0 k.1 (SamePlace-trans e f k.0 same k.2)))), same, is ∙ ap (λ (v : Entry). joined v f) (sym s)))
merge_in-cases e es fs x a b rest (inr (inr (d, f, inr i, j, at, is))) =
    inr (inl (
      rest x (inr (inr (d, f, i, j, at, is))),
      λ same.
          let at_f : SamePlace x f = subst (λ (v : Entry). SamePlace v f) (sym is) (joined_place d f) in
          not_among_later e es d a.0 i (SamePlace-trans e f d (SamePlace-trans e x f same at_f) (SamePlace-sym d f at)),
    ))

alone_in : (fs : List Entry) (x : Entry) → IsMerged [] fs x → In x fs
alone_in fs x (inl h) = absurd h.0
alone_in fs x (inr (inl h)) = h.0
alone_in fs x (inr (inr h)) = absurd h.2

pub merged-in : (es fs : List Entry) (x : Entry) → IsAscending comes_before es → IsAscending comes_before fs → IsMerged es fs x → In x (merged es fs)
unfolding merged
merged-in [] fs x a b h = alone_in fs x h
merged-in (e ∷ es) fs x a b h = put-in e (merged es fs) x (ascends-merged es fs b) (merge_in-cases e es fs x a b (λ y k. merged-in es fs y a.1 b k) h)

-- how long a list is with an entry put into it

is_level-from_same : (e f : Entry) → SamePlace e f → is_level e f ≡ true
is_level-from_same e f same =
    and_from _ _ (not_from_false (comes_before e f) (false_from_ne_true (comes_before e f) (not_before_same e f same)))
    (not_from_false (comes_before f e) (false_from_ne_true (comes_before f e) (not_before_same f e (SamePlace-sym e f same))))

same_from_is_level : (e f : Entry) → is_level e f ≡ true → SamePlace e f
same_from_is_level e f h = same_from_neither e f (not-true _ (and_parts _ _ h).0) (not-true _ (and_parts _ _ h).1)

pub has_level-from_place : (e : Entry) (fs : List Entry) → HasPlace e fs → list_any (is_level e) fs ≡ true
has_level-from_place e fs h = list_any-from_in (is_level e) fs h.0 h.1 (is_level-from_same e h.0 h.2)

pub place_from_has_level : (e : Entry) (fs : List Entry) → list_any (is_level e) fs ≡ true → HasPlace e fs
place_from_has_level e fs h = let found = in_from_list_any (is_level e) fs h in (found.0, found.1, same_from_is_level e found.0 found.2)

length-with_entry : (e : Entry) (fs : List Entry) → IsAscending comes_before fs → length (with_entry e fs) + cond (list_any (is_level e) fs) 1 0 ≡ suc (length fs)
length-with_entry e [] a = refl
length-with_entry e (f ∷ fs) a =
    let has = list_any (is_level e) (f ∷ fs) in
    let P : List Entry → Type 0 = λ l. length l + cond {A = ℕ} has 1 0 ≡ suc (suc (length fs)) in
    cond_both (comes_before e f) (e ∷ f ∷ fs) (cond (comes_before f e) (f ∷ with_entry e fs) (joined e f ∷ fs)) P
    (λ h.
    let none : has ≡ false = false_from_ne_true has (λ k. no_place_before e (f ∷ fs) (h, before_all_later e f fs h a.0) (place_from_has_level e (f ∷ fs) k)) in
    let zero_more : cond {A = ℕ} has 1 0 ≡ 0 = cond-false {A = ℕ} has 1 0 none in
    omega arith)
    (λ no.
    cond_both (comes_before f e) (f ∷ with_entry e fs) (joined e f ∷ fs) P
    (λ h.
    let apart : is_level e f ≡ false = false_from_ne_true (is_level e f) (λ k. not_before_same f e (SamePlace-sym e f (same_from_is_level e f k)) h) in
    let same : cond {A = ℕ} has 1 0 ≡ cond {A = ℕ} (list_any (is_level e) fs) 1 0 = ap (λ (b : Bool). cond {A = ℕ} (b || list_any (is_level e) fs) 1 0) apart in
    let rest = length-with_entry e fs a.1 in
    omega arith)
    (λ nor.
    let there : has ≡ true = has_level-from_place e (f ∷ fs) (f, inl refl, same_from_neither e f no nor) in
    let one_more : cond {A = ℕ} has 1 0 ≡ 1 = cond-true {A = ℕ} has 1 0 there in
    omega arith))

common_count-cons : (e : Entry) (es fs : List Entry) → common_count (e ∷ es) fs ≡ cond (list_any (is_level e) fs) 1 0 + common_count es fs
common_count-cons e es fs = sum_by-cons (λ (d : Entry). cond (list_any (is_level d) fs) 1 0) e es

pub length-merged : (es fs : List Entry) → IsAscending comes_before es → IsAscending comes_before fs → length (merged es fs) + common_count es fs ≡ length es + length fs
unfolding merged
length-merged [] fs a b = let none : common_count [] fs ≡ 0 = refl in omega arith
length-merged (e ∷ es) fs a b =
    let later = merged es fs in
    let put = length-with_entry e later (ascends-merged es fs b) in
    let has : list_any (is_level e) later ≡ list_any (is_level e) fs =
    same_tests (list_any (is_level e) later) (list_any (is_level e) fs)
    (λ h.
    (let there = place_from_has_level e later h in
    let from : In there.0 fs = from_other_alone e es fs there.0 a.0 there.2 (merged-from es fs there.0 a.1 b there.1) in
    has_level-from_place e fs (there.0, from, there.2)))
    (λ h.
    (let there = place_from_has_level e fs h in
    let kept = place_in_merged es fs there.0 there.1 in
    has_level-from_place e later (kept.0, kept.1, SamePlace-trans e there.0 kept.0 there.2 kept.2))) in
    let ones : cond {A = ℕ} (list_any (is_level e) later) 1 0 ≡ cond {A = ℕ} (list_any (is_level e) fs) 1 0 = ap (λ (t : Bool). cond {A = ℕ} t 1 0) has in
    let count = common_count-cons e es fs in
    let rest = length-merged es fs a.1 b in
    omega arith
