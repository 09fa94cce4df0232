-- Elements of lists, and their places.
use Rattle.std.proofs.Common.{◌≡◌, ℕ, zero, suc, ◌<◌, ◌≤◌, Bool, true, List, [], ◌∷◌, length, get_or, inl, inr, sym, ◌∙◌, ap, subst, arith}
use Rattle.std.specs.List.{filter, Contains, All}
use Rattle.std.proofs.lemmas.Bool.{cases_eq, eq-eqb, ne_eqb, cond_both, cases_order, false≢true}
use Rattle.std.proofs.lemmas.List.Elements.{Contains-get_or}
use Rattle.std.specs.Prelude.{nat_eq}
use Rattle.order_laws.specs.OrderLaws.{TestsKeepWhatPasses}
use Rattle.order_laws.proofs.OrderLemmas.{In, BeforeAll, IsAscending, before_each, IsStrict}

pub in_at : {X : Type 0} (xs : List X) (k : ℕ) (x : X) → k < length xs → get_or xs k x ≡ x → In x xs
in_at [] k x h e = absurd (omega arith)
in_at (y ∷ ys) zero x h e = inl e
in_at (y ∷ ys) (suc k) x h e = inr (in_at ys k x (omega arith) e)

pub in_from_contains : {X : Type 0} (xs : List X) (x : X) → Contains xs x → In x xs
in_from_contains xs x h = in_at xs h.0 x h.1 h.2

contains_more : {X : Type 0} (y : X) (ys : List X) (x : X) → Contains ys x → Contains (y ∷ ys) x
contains_more y ys x h = (suc h.0, (let within : h.0 < length ys = h.1 in omega arith), h.2)

pub contains_from_in : {X : Type 0} (xs : List X) (x : X) → In x xs → Contains xs x
contains_from_in [] x i = absurd i
contains_from_in (y ∷ ys) x (inl e) = (zero, omega arith, e)
contains_from_in (y ∷ ys) x (inr h) = contains_more y ys x (contains_from_in ys x h)

pub in_at_place : {X : Type 0} (xs : List X) (k : ℕ) (d : X) → k < length xs → In (get_or xs k d) xs
in_at_place xs k d h = in_from_contains xs (get_or xs k d) (Contains-get_or xs k d h)

pub before_at : {X : Type 0} (before : X → X → Bool) (ys : List X) → IsAscending before ys → (i j : ℕ) (d : X) → i < j → j < length ys → before (get_or ys i d) (get_or ys j d) ≡ true
before_at before [] a i j d less within = absurd (omega arith)
before_at before (y ∷ ys) a i zero d less within = absurd (omega arith)
before_at before (y ∷ ys) a zero (suc j) d less within = before_each before y ys (get_or ys j d) (in_at_place ys j d (omega arith)) a.0
before_at before (y ∷ ys) a (suc i) (suc j) d less within = before_at before ys a.1 i j d (omega arith) (omega arith)

all_before : {X : Type 0} (before : X → X → Bool) (x : X) (ys : List X) → ((k : ℕ) (d : X) → k < length ys → before x (get_or ys k d) ≡ true) → BeforeAll before x ys
all_before before x [] h = tt
all_before before x (y ∷ ys) h = (h zero y (omega arith), all_before before x ys (λ k d within. h (suc k) d (omega arith)))

pub ascending_from_pairs : {X : Type 0} (before : X → X → Bool) (ys : List X) → ((i j : ℕ) (d : X) → i < j → j < length ys → before (get_or ys i d) (get_or ys j d) ≡ true) → IsAscending before ys
ascending_from_pairs before [] h = tt
ascending_from_pairs before (y ∷ ys) h =
    (all_before before y ys (λ k d within. h zero (suc k) d (omega arith) (omega arith)), ascending_from_pairs before ys (λ i j d less within. h (suc i) (suc j) d (omega arith) (omega arith)))

-- in an ascending list an element has one place
pub one_place : {X : Type 0} (before : X → X → Bool) → IsStrict before → (ys : List X) → IsAscending before ys → (i k : ℕ) (d : X) → i < length ys → k < length ys → get_or ys i d ≡ get_or ys k d → i ≡ k
one_place {X} before strict ys a i k d within_i within_k same =
    elim (cases_order i k) [
      | inl e ↦ e
      | inr h ↦ elim h [
        | inl less ↦ absurd (strict.irreflexive (get_or ys k d) (let P : X → Type 0 = λ v. before v (get_or ys k d) ≡ true in subst P same (before_at before ys a i k d less within_k)))
        | inr more ↦ absurd (strict.irreflexive (get_or ys k d) (let P : X → Type 0 = λ v. before (get_or ys k d) v ≡ true in subst P same (before_at before ys a k i d more within_i)))
      ]
    ]

pub keeps : {X : Type 0} (test : X → Bool) (x : X) (ys : List X) → test x ≡ true → In x ys → In x (filter test ys)
keeps test x [] e i = absurd i
keeps {X} test x (y ∷ ys) e (inl s) =
    cond_both (test y) _ _ (In x) (λ _. inl s) (λ no. absurd (false≢true (sym no ∙ ap test s ∙ e)))
keeps test x (y ∷ ys) e (inr h) =
    cond_both (test y) _ _ (In x) (λ _. inr (keeps test x ys e h)) (λ _. keeps test x ys e h)

pub eqb_flips : (m n : ℕ) → nat_eq m n ≡ nat_eq n m
eqb_flips m n =
    elim (cases_eq m n) [
      | inl e ↦ eq-eqb m n e ∙ sym (eq-eqb n m (sym e))
      | inr apart ↦ ne_eqb m n apart ∙ sym (ne_eqb n m (λ e. apart (sym e)))
    ]

-- what is kept is an element, and passes
pub in_filter : {X : Type 0} (test : X → Bool) (x : X) (ys : List X) → In x (filter test ys) → In x ys × (test x ≡ true)
in_filter test x [] i = absurd i
in_filter {X} test x (y ∷ ys) i =
    let rest : In x (filter test ys) → In x (y ∷ ys) × (test x ≡ true) = λ h. (let both = in_filter test x ys h in (inr both.0, both.1)) in
    let P : List X → Type 0 = λ l. In x l → In x (y ∷ ys) × (test x ≡ true) in
    cond_both (test y) (y ∷ filter test ys) (filter test ys) P
    (λ e j. elim j [ inl s ↦ (inl s, ap test (sym s) ∙ e) | inr h ↦ rest h ])
    (λ e j. rest j) i

pub kept_from_filter : {X : Type 0} (test : X → Bool) (x : X) (ys : List X) → Contains (filter test ys) x → Contains ys x × (test x ≡ true)
kept_from_filter test x ys h =
    let both = in_filter test x ys (in_from_contains (filter test ys) x h) in
    (contains_from_in ys x both.0, both.1)

pub kept_in_filter : {X : Type 0} (test : X → Bool) (x : X) (ys : List X) → Contains ys x → test x ≡ true → Contains (filter test ys) x
kept_in_filter test x ys h e = contains_from_in (filter test ys) x (keeps test x ys e (in_from_contains ys x h))

pub tests_keep_what_passes : {X : Type 0} → TestsKeepWhatPasses X
tests_keep_what_passes test xs x = (kept_from_filter test x xs, λ both. kept_in_filter test x xs both.0 both.1)

one_of_one : {X : Type 0} (z x y : X) → In x (z ∷ []) → In y (z ∷ []) → x ≡ y
one_of_one z x y (inl e) (inl f) = sym e ∙ f
one_of_one z x y (inl e) (inr i) = absurd i
one_of_one z x y (inr i) k = absurd i

-- a list of at most one has no two elements
pub only_element : {X : Type 0} (xs : List X) (x y : X) → length xs ≤ 1 → Contains xs x → Contains xs y → x ≡ y
only_element [] x y short h k = absurd (omega (arith, h.1))
only_element (z ∷ []) x y short h k = one_of_one z x y (in_from_contains (z ∷ []) x h) (in_from_contains (z ∷ []) y k)
only_element (z ∷ w ∷ zs) x y short h k = absurd (omega arith)

pub all_from_contains : {X : Type 0} (P : X → Type 0) (xs : List X) → ((x : X) → Contains xs x → P x) → All P xs
all_from_contains P xs h k d within = h (get_or xs k d) (Contains-get_or xs k d within)

pub some_from_contains : {X : Type 0} (xs : List X) (x : X) → Contains xs x → 1 ≤ length xs
some_from_contains xs x h = let within : h.0 < length xs = h.1 in omega arith

-- the element at a place that a list has
pub element_at : {X : Type 0} (xs : List X) (k : ℕ) → k < length xs → X
element_at [] k within = absurd (omega arith)
element_at (x ∷ xs) zero within = x
element_at (x ∷ xs) (suc k) within = element_at xs k (omega arith)
