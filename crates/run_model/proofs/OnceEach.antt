-- Lists that have each element once: with the same elements, they have the same sum.
use Rattle.std.proofs.Common.{◌≡◌, ℕ, zero, suc, ◌+◌, ◌<◌, Bool, true, false, cond, ◌≤◌, List, [], ◌∷◌, ◌++◌, map, length, get_or, ◌⊎◌, inl, inr, refl, sym, ◌∙◌, ap, subst, arith}
use Rattle.std.specs.List.{Contains, AllPairs, filter, flat_map, range_with_len, sum_by}
use Rattle.std.proofs.lemmas.List.Sums.{sum_by-cons, sum_by-append}
use Rattle.std.proofs.lemmas.Bool.{cond_both, cond-true, cases_order}

-- x is an element
abbrev pub In : {X : Type 0} → X → List X → Type 0
In x [] = ⊥
In x (y ∷ ys) = (y ≡ x) ⊎ In x ys

-- no element is there twice
abbrev pub Once : {X : Type 0} → List X → Type 0
Once [] = Unit {0}
Once (x ∷ xs) = (In x xs → ⊥) × Once xs

in_at : {X : Type 0} (xs : List X) (k : ℕ) (x : X) → k < length xs → get_or xs k x ≡ x → In x xs
in_at [] k x below e = absurd (omega arith)
in_at (y ∷ ys) zero x below e = inl e
in_at (y ∷ ys) (suc k) x below e = inr (in_at ys k x (omega arith) e)

pub in_from_contains : {X : Type 0} (xs : List X) (x : X) → Contains xs x → In x xs
in_from_contains xs x c = in_at xs c.0 x c.1 c.2

place_of : {X : Type 0} (xs : List X) (x : X) → In x xs → (k : ℕ) × (k < length xs) × (get_or xs k x ≡ x)
place_of [] x i = absurd i
place_of (y ∷ ys) x (inl e) = (0, omega arith, e)
place_of (y ∷ ys) x (inr h) = (let p = place_of ys x h in (suc p.0, (let below : p.0 < length ys = p.1 in omega arith), p.2))

pub contains_from_in : {X : Type 0} (xs : List X) (x : X) → In x xs → Contains xs x
contains_from_in xs x i = place_of xs x i

-- ---- one element less

without : {X : Type 0} (x : X) (ys : List X) → In x ys → List X
without x [] i = []
without x (y ∷ ys) (inl e) = ys
without x (y ∷ ys) (inr h) = y ∷ without x ys h

sum-without : {X : Type 0} (f : X → ℕ) (x : X) (ys : List X) (i : In x ys) → sum_by f ys ≡ f x + sum_by f (without x ys i)
unfolding without
sum-without f x [] i = absurd i
sum-without f x (y ∷ ys) (inl e) = let same : f y ≡ f x = ap f e in let head = sum_by-cons f y ys in omega arith
sum-without f x (y ∷ ys) (inr h) =
    let rest = sum-without f x ys h in
    let head = sum_by-cons f y ys in
    let left = sum_by-cons f y (without x ys h) in
    omega arith

from_without : {X : Type 0} (x : X) (ys : List X) (i : In x ys) (z : X) → In z (without x ys i) → In z ys
unfolding without
from_without x [] i z h = absurd i
from_without x (y ∷ ys) (inl e) z h = inr h
from_without x (y ∷ ys) (inr i) z (inl e) = inl e
from_without x (y ∷ ys) (inr i) z (inr h) = inr (from_without x ys i z h)

in_without : {X : Type 0} (x : X) (ys : List X) (i : In x ys) (z : X) → (x ≡ z → ⊥) → In z ys → In z (without x ys i)
unfolding without
in_without x [] i z apart h = absurd i
in_without x (y ∷ ys) (inl e) z apart (inl f) = absurd (apart (sym e ∙ f))
in_without x (y ∷ ys) (inl e) z apart (inr h) = h
in_without x (y ∷ ys) (inr i) z apart (inl f) = inl f
in_without x (y ∷ ys) (inr i) z apart (inr h) = inr (in_without x ys i z apart h)

once_without : {X : Type 0} (x : X) (ys : List X) (i : In x ys) → Once ys → Once (without x ys i)
unfolding without
once_without x [] i o = tt
once_without x (y ∷ ys) (inl e) o = o.1
once_without x (y ∷ ys) (inr i) o = (λ h. o.0 (from_without x ys i y h), once_without x ys i o.1)

gone_without : {X : Type 0} (x : X) (ys : List X) (i : In x ys) → Once ys → In x (without x ys i) → ⊥
unfolding without
gone_without x [] i o h = i
gone_without {X} x (y ∷ ys) (inl e) o h = o.0 (subst (λ (z : X). In z ys) (sym e) h)
gone_without {X} x (y ∷ ys) (inr i) o (inl e) = o.0 (subst (λ (z : X). In z ys) (sym e) i)
gone_without x (y ∷ ys) (inr i) o (inr h) = gone_without x ys i o.1 h

-- ---- sums

pub same_sum : {X : Type 0} (f : X → ℕ) (xs ys : List X) → Once xs → Once ys → ((z : X) → In z xs → In z ys) → ((z : X) → In z ys → In z xs) → sum_by f xs ≡ sum_by f ys
same_sum f [] [] o p forth back = refl
same_sum f [] (y ∷ ys) o p forth back = absurd (back y (inl refl))
same_sum {X} f (x ∷ xs) ys o p forth back =
    let i = forth x (inl refl) in
    let rest =
    same_sum f xs (without x ys i) o.1 (once_without x ys i p)
    (λ z h. in_without x ys i z (λ e. o.0 (subst (λ (w : X). In w xs) (sym e) h)) (forth z (inr h)))
    (λ z h. later z (back z (from_without x ys i z h)) (λ e. gone_without x ys i p (subst (λ (w : X). In w (without x ys i)) (sym e) h)))
    in
    let whole = sum-without f x ys i in
    let head = sum_by-cons f x xs in
    omega arith
  where
    later : (z : X) → In z (x ∷ xs) → (x ≡ z → ⊥) → In z xs
    later z (inl e) apart = absurd (apart e)
    later z (inr h) apart = h

-- ---- maps, filters and ranges

pub in_map : {X Y : Type 0} (f : X → Y) (xs : List X) (y : Y) → In y (map f xs) → (x : X) × In x xs × (f x ≡ y)
in_map f [] y h = absurd h
in_map f (x ∷ xs) y (inl e) = (x, inl refl, e)
in_map f (x ∷ xs) y (inr h) = (let found = in_map f xs y h in (found.0, inr found.1, found.2))

pub map_in : {X Y : Type 0} (f : X → Y) (xs : List X) (x : X) → In x xs → In (f x) (map f xs)
map_in f [] x h = absurd h
map_in f (y ∷ ys) x (inl e) = inl (ap f e)
map_in f (y ∷ ys) x (inr h) = inr (map_in f ys x h)

-- what has a left inverse keeps elements apart
pub once_map : {X Y : Type 0} (f : X → Y) (g : Y → X) (xs : List X) → ((x : X) → In x xs → g (f x) ≡ x) → Once xs → Once (map f xs)
once_map f g [] back o = tt
once_map {X} f g (x ∷ xs) back o = (
  λ h. (let found = in_map f xs (f x) h in
      let same : found.0 ≡ x = sym (back found.0 (inr found.1)) ∙ ap g found.2 ∙ back x (inl refl) in
      o.0 (subst (λ (z : X). In z xs) same found.1)),
  once_map f g xs (λ z h. back z (inr h)) o.1,
)

pub once_from_pairs : {X : Type 0} (R : X → X → Type 0) → ((x : X) → R x x → ⊥) → (xs : List X) → AllPairs R xs → Once xs
once_from_pairs R irreflexive [] h = tt
once_from_pairs {X} R irreflexive (x ∷ xs) h = (
  λ i. (let p = place_of xs x i in
      irreflexive x (subst (λ (z : X). R x z) p.2 (h 0 (suc p.0) x (omega arith) (let below : p.0 < length xs = p.1 in omega arith)))),
  once_from_pairs R irreflexive xs (λ i j d less below. h (suc i) (suc j) d (omega arith) (omega arith)),
)

filter_step : {X : Type 0} (test : X → Bool) (x y : X) (ys rest : List X) (b : Bool) → test y ≡ b → (In x rest → In x ys × (test x ≡ true)) → In x (cond b (y ∷ rest) rest) → In x (y ∷ ys) × (test x ≡ true)
filter_step test x y ys rest true e f (inl same) = (inl same, ap test (sym same) ∙ e)
filter_step test x y ys rest true e f (inr h) = (let r = f h in (inr r.0, r.1))
filter_step test x y ys rest false e f h = (let r = f h in (inr r.0, r.1))

pub in_filter : {X : Type 0} (test : X → Bool) (x : X) (ys : List X) → In x (filter test ys) → In x ys × (test x ≡ true)
in_filter test x [] h = absurd h
in_filter test x (y ∷ ys) h = filter_step test x y ys (filter test ys) (test y) refl (in_filter test x ys) h

pub filter_in : {X : Type 0} (test : X → Bool) (x : X) (ys : List X) → test x ≡ true → In x ys → In x (filter test ys)
filter_in test x [] e h = h
filter_in test x (y ∷ ys) e (inl same) = rw (cond-true (test y) (y ∷ filter test ys) (filter test ys) (ap test same ∙ e)) (inl same)
filter_in {X} test x (y ∷ ys) e (inr h) =
    let rest = filter_in test x ys e h in
    cond_both (test y) (y ∷ filter test ys) (filter test ys) (λ (l : List X). In x l) (λ _. inr rest) (λ _. rest)

in_append : {X : Type 0} (x : X) (ys zs : List X) → In x (ys ++ zs) → In x ys ⊎ In x zs
in_append x [] zs h = inr h
in_append x (y ∷ ys) zs (inl e) = inl (inl e)
in_append x (y ∷ ys) zs (inr h) = elim (in_append x ys zs h) [ inl i ↦ inl (inr i) | inr i ↦ inr i ]

append_left : {X : Type 0} (x : X) (ys zs : List X) → In x ys → In x (ys ++ zs)
append_left x [] zs h = absurd h
append_left x (y ∷ ys) zs (inl e) = inl e
append_left x (y ∷ ys) zs (inr h) = inr (append_left x ys zs h)

append_right : {X : Type 0} (x : X) (ys zs : List X) → In x zs → In x (ys ++ zs)
append_right x [] zs h = h
append_right x (y ∷ ys) zs h = inr (append_right x ys zs h)

once_append : {X : Type 0} (ys zs : List X) → Once ys → Once zs → ((x : X) → In x ys → In x zs → ⊥) → Once (ys ++ zs)
once_append [] zs o p apart = p
once_append (y ∷ ys) zs o p apart =
    (λ h. elim (in_append y ys zs h) [ inl i ↦ o.0 i | inr i ↦ apart y (inl refl) i ], once_append ys zs o.1 p (λ x i k. apart x (inr i) k))

pub in_flat_range : {X : Type 0} (f : ℕ → List X) (a n : ℕ) (x : X) → In x (flat_map f (range_with_len a n)) → (r : ℕ) × (a ≤ r) × In x (f r)
in_flat_range f a zero x h = absurd h
in_flat_range f a (suc n) x h =
    elim (in_append x (f a) (flat_map f (range_with_len (a + 1) n)) h) [
      | inl i ↦ (a, omega arith, i)
      | inr i ↦ (let found = in_flat_range f (a + 1) n x i in (found.0, (let low : a + 1 ≤ found.0 = found.1 in omega arith), found.2))
    ]

pub flat_range_in : {X : Type 0} (f : ℕ → List X) (a n r : ℕ) (x : X) → a ≤ r → r < a + n → In x (f r) → In x (flat_map f (range_with_len a n))
flat_range_in f a zero r x low high h = absurd (omega arith)
flat_range_in {X} f a (suc n) r x low high h =
    elim (cases_order r a) [
      | inl e ↦ append_left x (f a) _ (subst (λ (k : ℕ). In x (f k)) e h)
      | inr other ↦ append_right x (f a) (flat_map f (range_with_len (a + 1) n)) (elim other [
        | inl less ↦ absurd (omega arith)
        | inr more ↦ flat_range_in f (a + 1) n r x (omega arith) (omega arith) h
      ])
    ]

pub once_flat_range : {X : Type 0} (f : ℕ → List X) (number : X → ℕ) (a n : ℕ) → ((r : ℕ) (x : X) → In x (f r) → number x ≡ r) → ((r : ℕ) → Once (f r)) → Once (flat_map f (range_with_len a n))
once_flat_range f number a zero numbered o = tt
once_flat_range f number a (suc n) numbered o =
    once_append (f a) (flat_map f (range_with_len (a + 1) n)) (o a) (once_flat_range f number (a + 1) n numbered o)
    (λ x i k. (let found = in_flat_range f (a + 1) n x k in
    let low : a + 1 ≤ found.0 = found.1 in
    let here = numbered a x i in
    let there = numbered found.0 x found.2 in
    absurd (omega arith)))

pub sum_map : {X Y Z : Type 0} (f : X → Y) (g : X → Z) (v : Y → ℕ) (w : Z → ℕ) (xs : List X) → ((x : X) → In x xs → v (f x) ≡ w (g x)) → sum_by v (map f xs) ≡ sum_by w (map g xs)
sum_map f g v w [] same = refl
sum_map f g v w (x ∷ xs) same =
    let head = same x (inl refl) in
    let rest = sum_map f g v w xs (λ z h. same z (inr h)) in
    let left = sum_by-cons v (f x) (map f xs) in
    let right = sum_by-cons w (g x) (map g xs) in
    omega arith

pub sum_flat : {Y Z : Type 0} (f : ℕ → List Y) (g : ℕ → List Z) (v : Y → ℕ) (w : Z → ℕ) (rs : List ℕ) → ((r : ℕ) → sum_by v (f r) ≡ sum_by w (g r)) → sum_by v (flat_map f rs) ≡ sum_by w (flat_map g rs)
sum_flat f g v w [] same = refl
sum_flat f g v w (r ∷ rs) same =
    let head = same r in
    let rest = sum_flat f g v w rs same in
    let left = sum_by-append v (f r) (flat_map f rs) in
    let right = sum_by-append w (g r) (flat_map g rs) in
    omega arith

pub map_same : {X Y : Type 0} (f g : X → Y) (xs : List X) → ((x : X) → In x xs → f x ≡ g x) → map f xs ≡ map g xs
map_same f g [] same = refl
map_same f g (x ∷ xs) same = let head = same x (inl refl) in let rest = map_same f g xs (λ z h. same z (inr h)) in cc
