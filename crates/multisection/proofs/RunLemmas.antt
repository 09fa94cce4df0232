-- The runs of slabs in particles that stand in order along an axis.
use Rattle.std.proofs.Common.{◌≡◌, ℕ, zero, suc, ◌+◌, ◌-◌, ◌≤◌, Bool, true, false, cond, not, ◌&&◌, List, [], ◌∷◌, ◌++◌, length, get_or, take, drop, map, nat_eq, nat_lt, nat_le, inl, inr, refl, sym, ◌∙◌, ap, subst, arith}
use Rattle.std.specs.List.{filter, count_by}
use Rattle.std.specs.List.Sorted.{IsPartitionedBy, IsPartitionPoint, IsNonDecreasingBy}
use Rattle.std.proofs.lemmas.Bool.{both_ways, cases_Bool, cases_lt, cases_order, cond-true, cond-false, le-leb, lt-leb, lt-ltb, le-ltb, eq-eqb, ne_eqb}
use Rattle.std.proofs.lemmas.List.{drop-drop, length-drop, length-take, length-append}
use Rattle.std.proofs.lemmas.Slice.{drop-put_mid}
use borrow.Rule.Slice.PartMut.{put_mid}
use Rattle.std.proofs.lemmas.List.Sums.{sum_by-cons}
use Rattle.std.proofs.lemmas.List.Sorted.{IsPartitionedBy-leb, IsNonDecreasingBy-drop}
use Rattle.pf_geom.specs.declared.axis.Axis.{Axis}
use Rattle.pf_model.specs.Particle.{Particle}
use Rattle.pf_model.specs.Domains.{slab_of}
use Rattle.multisection.specs.Sites.{along}

-- a partition point splits a list into what passes and what doesn't
pub front_is_filter : {X : Type 0} (p : X → Bool) (xs : List X) (r : ℕ) → r ≤ length xs → IsPartitionPoint (λ x. p x ≡ true) (λ x. p x ≡ false) xs r → take r xs ≡ filter p xs
front_is_filter p [] zero within h = refl
front_is_filter p [] (suc r) within h = absurd (omega arith)
front_is_filter p (x ∷ xs) zero within h =
    front_is_filter p xs zero (omega arith) (λ k d a b. absurd (omega arith), λ k d a b. h.1 (suc k) d (omega arith) (omega arith))
    ∙ sym (cond-false (p x) _ _ (h.1 0 x (omega arith) (omega arith)))
front_is_filter p (x ∷ xs) (suc r) within h =
    ap (λ ys. x ∷ ys) (front_is_filter p xs r (omega arith) (λ k d a b. h.0 (suc k) d (omega arith) (omega arith), λ k d a b. h.1 (suc k) d (omega arith) (omega arith)))
    ∙ sym (cond-true (p x) _ _ (h.0 0 x (omega arith) (omega arith)))

pub rest_is_filter : {X : Type 0} (p q : X → Bool) → ((x : X) → q x ≡ not (p x)) → (xs : List X) (r : ℕ) → r ≤ length xs → IsPartitionPoint (λ x. p x ≡ true) (λ x. p x ≡ false) xs r → drop r xs ≡ filter q xs
rest_is_filter p q other [] zero within h = refl
rest_is_filter p q other [] (suc r) within h = absurd (omega arith)
rest_is_filter p q other (x ∷ xs) zero within h =
    ap (λ ys. x ∷ ys) (rest_is_filter p q other xs zero (omega arith) (λ k d a b. absurd (omega arith), λ k d a b. h.1 (suc k) d (omega arith) (omega arith)))
    ∙ sym (cond-true (q x) _ _ (other x ∙ ap not (h.1 0 x (omega arith) (omega arith))))
rest_is_filter p q other (x ∷ xs) (suc r) within h =
    rest_is_filter p q other xs r (omega arith) (λ k d a b. h.0 (suc k) d (omega arith) (omega arith), λ k d a b. h.1 (suc k) d (omega arith) (omega arith))
    ∙ sym (cond-false (q x) _ _ (other x ∙ ap not (h.0 0 x (omega arith) (omega arith))))

-- two tests, one after the other
pub filter-filter : {X : Type 0} (p q r : X → Bool) → ((x : X) → r x ≡ (q x && p x)) → (xs : List X) → filter p (filter q xs) ≡ filter r xs
filter-filter p q r both [] = refl
filter-filter p q r both (x ∷ xs) =
    elim (cases_Bool (q x)) [
      | inl kept ↦
          let same : r x ≡ p x = both x ∙ ap (λ (b : Bool). b && p x) kept in
          ap (filter p) (cond-true (q x) (x ∷ filter q xs) (filter q xs) kept)
          ∙ (λ i. cond (sym same i) (x ∷ filter-filter p q r both xs i) (filter-filter p q r both xs i))
      | inr left ↦
          let never : r x ≡ false = both x ∙ ap (λ (b : Bool). b && p x) left in
          ap (filter p) (cond-false (q x) (x ∷ filter q xs) (filter q xs) left) ∙ filter-filter p q r both xs ∙ sym (cond-false (r x) (x ∷ filter r xs) (filter r xs) never)
    ]

pub filter-map : {X Y : Type 0} (f : X → Y) (p : Y → Bool) (q : X → Bool) → ((x : X) → p (f x) ≡ q x) → (xs : List X) → filter p (map f xs) ≡ map f (filter q xs)
filter-map f p q same [] = refl
filter-map f p q same (x ∷ xs) =
    elim (cases_Bool (q x)) [
      | inl kept ↦ cond-true (p (f x)) _ _ (same x ∙ kept) ∙ ap (λ ys. f x ∷ ys) (filter-map f p q same xs) ∙ sym (ap (map f) (cond-true (q x) (x ∷ filter q xs) (filter q xs) kept))
      | inr left ↦ cond-false (p (f x)) _ _ (same x ∙ left) ∙ filter-map f p q same xs ∙ sym (ap (map f) (cond-false (q x) (x ∷ filter q xs) (filter q xs) left))
    ]

filter_all : {X : Type 0} (p : X → Bool) → ((x : X) → p x ≡ true) → (xs : List X) → filter p xs ≡ xs
filter_all p all [] = refl
filter_all p all (x ∷ xs) = cond-true (p x) (x ∷ filter p xs) (filter p xs) (all x) ∙ ap (λ l. x ∷ l) (filter_all p all xs)

one_more : (b : Bool) (n : ℕ) → b ≡ true → cond b 1 0 + n ≡ suc n
one_more true n e = omega arith
one_more false n e = absurd (both_ways false refl e)

no_more : (b : Bool) (n : ℕ) → b ≡ false → cond b 1 0 + n ≡ n
no_more true n e = absurd (both_ways true e refl)
no_more false n e = omega arith

count_yes : {X : Type 0} (p : X → Bool) (x : X) (xs : List X) → p x ≡ true → count_by p (x ∷ xs) ≡ suc (count_by p xs)
count_yes p x xs e = sum_by-cons (λ y. cond (p y) 1 0) x xs ∙ one_more (p x) (count_by p xs) e

count_no : {X : Type 0} (p : X → Bool) (x : X) (xs : List X) → p x ≡ false → count_by p (x ∷ xs) ≡ count_by p xs
count_no p x xs e = sum_by-cons (λ y. cond (p y) 1 0) x xs ∙ no_more (p x) (count_by p xs) e

-- a higher coordinate is in no lower slab
slab_rises : (cuts : List ℕ) (n m : ℕ) → n ≤ m → slab_of cuts n ≤ slab_of cuts m
slab_rises [] n m h = omega arith
slab_rises (c ∷ cuts) n m h =
    let rest = slab_rises cuts n m h in
    elim (cases_lt m c) [
      | inl over ↦
          let low = count_no (λ cut. nat_le cut n) c cuts (lt-leb c n (omega arith)) in
          let high = count_no (λ cut. nat_le cut m) c cuts (lt-leb c m over) in
          omega arith
      | inr under ↦
          let high = count_yes (λ cut. nat_le cut m) c cuts (le-leb c m under) in
          elim (cases_lt n c) [
            | inl out ↦ (let low = count_no (λ cut. nat_le cut n) c cuts (lt-leb c n out) in omega arith)
            | inr in_too ↦ (let low = count_yes (λ cut. nat_le cut n) c cuts (le-leb c n in_too) in omega arith)
          ]
    ]

-- the slab of a particle along an axis
abbrev pub slab_at : Axis → List ℕ → Particle → ℕ
slab_at axis cuts j = slab_of cuts (along axis j.at)

pub slabs_rise : (axis : Axis) (cuts : List ℕ) (js : List Particle) → IsNonDecreasingBy (λ j. along axis j.at) js → IsNonDecreasingBy (slab_at axis cuts) js
slabs_rise axis cuts js rise i j d least within =
    slab_rises cuts (along axis (get_or js i d).at) (along axis (get_or js j d).at) (rise i j d least within)

pub slab_first : (axis : Axis) (cuts : List ℕ) (js : List Particle) (slab : ℕ) → IsNonDecreasingBy (λ j. along axis j.at) js → IsPartitionedBy (λ j. nat_le (slab_at axis cuts j) slab) js
slab_first axis cuts js slab rise = IsPartitionedBy-leb (slab_at axis cuts) js slab (slabs_rise axis cuts js rise)

pub le_or_lt : (n m : ℕ) → nat_lt m n ≡ not (nat_le n m)
le_or_lt n m =
    elim (cases_lt m n) [
      | inl less ↦ lt-ltb m n less ∙ ap not (sym (lt-leb n m less))
      | inr more ↦ le-ltb m n more ∙ ap not (sym (le-leb n m more))
    ]

-- of particles in order, those in no slab before k are left
pub record AreLeft (axis : Axis) (cuts : List ℕ) (sorted : List Particle) (k : ℕ) (left : List Particle) : Type 0 where
  pub are : left ≡ filter (λ j. nat_le k (slab_at axis cuts j)) sorted
  pub rise : IsNonDecreasingBy (λ j. along axis j.at) left

pub left_all : (axis : Axis) (cuts : List ℕ) (sorted : List Particle) → IsNonDecreasingBy (λ j. along axis j.at) sorted → AreLeft axis cuts sorted 0 sorted
left_all axis cuts sorted rise = record {
  are = sym (filter_all (λ j. nat_le 0 (slab_at axis cuts j)) (λ j. le-leb 0 (slab_at axis cuts j) (omega arith)) sorted);
  rise = rise;
}

later : (k n : ℕ) → nat_le (k + 1) n ≡ (nat_le k n && nat_lt k n)
later k n =
    elim (cases_lt k n) [
      | inl less ↦ le-leb (k + 1) n (omega arith) ∙ (λ i. sym (le-leb k n (omega arith)) i && sym (lt-ltb k n less) i)
      | inr more ↦ elim (cases_lt n k) [
        | inl below ↦ lt-leb (k + 1) n (omega arith) ∙ (λ i. sym (lt-leb k n below) i && nat_lt k n)
        | inr same ↦ lt-leb (k + 1) n (omega arith) ∙ (λ i. sym (le-leb k n (omega arith)) i && sym (le-ltb k n more) i)
      ]
    ]

here : (k n : ℕ) → nat_eq n k ≡ (nat_le k n && nat_le n k)
here k n =
    elim (cases_order n k) [
      | inl same ↦ eq-eqb n k same ∙ (λ i. sym (le-leb k n (omega arith)) i && sym (le-leb n k (omega arith)) i)
      | inr h ↦ elim h [
        | inl less ↦ ne_eqb n k (λ e. omega arith) ∙ (λ i. sym (lt-leb k n less) i && nat_le n k)
        | inr more ↦ ne_eqb n k (λ e. omega arith) ∙ (λ i. sym (le-leb k n (omega arith)) i && sym (lt-leb n k more) i)
      ]
    ]

-- the front of them is the slab k
pub left_run : (axis : Axis) (cuts given : List ℕ) (sorted left : List Particle) (k r : ℕ) → given ≡ cuts → AreLeft axis cuts sorted k left → take r left ≡ filter (λ j. nat_le (slab_at axis given j) k) left → take r left ≡ filter (λ j. nat_eq (slab_at axis cuts j) k) sorted
left_run axis cuts given sorted left k r same h front =
    front ∙ ap (λ (l : List ℕ). filter (λ j. nat_le (slab_at axis l j) k) left) same ∙ ap (filter (λ j. nat_le (slab_at axis cuts j) k)) h.are
    ∙ filter-filter (λ j. nat_le (slab_at axis cuts j) k) (λ j. nat_le k (slab_at axis cuts j)) (λ j. nat_eq (slab_at axis cuts j) k) (λ j. here k (slab_at axis cuts j)) sorted

-- and the rest is left for the next
pub left_more : (axis : Axis) (cuts : List ℕ) (sorted left next : List Particle) (k r : ℕ) → AreLeft axis cuts sorted k left → next ≡ filter (λ j. nat_lt k (slab_at axis cuts j)) left → drop r left ≡ next → AreLeft axis cuts sorted (k + 1) next
left_more axis cuts sorted left next k r h rest is = record {
  are =
      rest ∙ ap (filter (λ j. nat_lt k (slab_at axis cuts j))) h.are
      ∙ filter-filter (λ j. nat_lt k (slab_at axis cuts j)) (λ j. nat_le k (slab_at axis cuts j)) (λ j. nat_le (k + 1) (slab_at axis cuts j)) (λ j. later k (slab_at axis cuts j)) sorted;
  rise = subst (λ (l : List Particle). IsNonDecreasingBy (λ j. along axis j.at) l) is (IsNonDecreasingBy-drop (λ (j : Particle). along axis j.at) r left h.rise);
}

-- the slabs before k have been cut, and those from the place `start` on are left
pub record AreCutBefore (axis : Axis) (cuts : List ℕ) (sorted : List Particle) (k start : ℕ) (sites : List Particle) : Type 0 where
  pub within : start ≤ length sites
  pub left : AreLeft axis cuts sorted k (drop start sites)

pub none_cut : (axis : Axis) (cuts : List ℕ) (sorted : List Particle) → IsNonDecreasingBy (λ j. along axis j.at) sorted → AreCutBefore axis cuts sorted 0 0 sorted
none_cut axis cuts sorted rise = record { within = omega arith; left = left_all axis cuts sorted rise }

pub one_more_cut : (axis : Axis) (cuts given : List ℕ) (sorted sites part : List Particle) (k start end : ℕ) → given ≡ cuts → AreCutBefore axis cuts sorted k start sites → start ≤ end → end ≤ length sites →
    drop end sites ≡ filter (λ j. nat_lt k (slab_at axis given j)) (drop start sites) → length part ≡ length (take (end - start) (drop start sites)) → AreCutBefore axis cuts sorted (k + 1) end (put_mid start (end - start) sites part)
one_more_cut axis cuts given sorted sites part k start end same h order within rest long =
    let left : List Particle = drop start sites in
    let after : List Particle = put_mid start (end - start) sites part in
    let room = length-drop start sites in
    let cut = length-take (end - start) left in
    let part_is : length part ≡ end - start = omega arith in
    let front = length-take start sites in
    let back = length-drop (end - start) left in
    let whole = length-append (take start sites) (part ++ drop (end - start) left) in
    let two = length-append part (drop (end - start) left) in
    let sum : start + (end - start) ≡ end = omega arith in
    let kept : drop end after ≡ drop end sites = drop-put_mid start (end - start) sites part end (omega arith) (omega arith) part_is in
    let dropped : drop (end - start) left ≡ drop end after = drop-drop (end - start) start sites ∙ ap (λ (n : ℕ). drop n sites) sum ∙ sym kept in
    record { within = omega arith; left = left_more axis cuts sorted left (drop end after) k (end - start) h.left (kept ∙ rest ∙ ap (λ (l : List ℕ). filter (λ j. nat_lt k (slab_at axis l j)) left) same) dropped }

-- a partition point is a count
pub point_is_count : {X : Type 0} (p : X → Bool) (xs : List X) (r : ℕ) → r ≤ length xs → IsPartitionPoint (λ y. p y ≡ true) (λ y. p y ≡ false) xs r → r ≡ count_by p xs
point_is_count p [] zero within h = refl
point_is_count p [] (suc r) within h = absurd (omega arith)
point_is_count p (x ∷ xs) zero within h =
    let rest = point_is_count p xs zero (omega arith) (λ k d a b. absurd (omega arith), λ k d a b. h.1 (suc k) d (omega arith) (omega arith)) in
    let here = count_no p x xs (h.1 0 x (omega arith) (omega arith)) in
    omega arith
point_is_count p (x ∷ xs) (suc r) within h =
    let rest = point_is_count p xs r (omega arith) (λ k d a b. h.0 (suc k) d (omega arith) (omega arith), λ k d a b. h.1 (suc k) d (omega arith) (omega arith)) in
    let here = count_yes p x xs (h.0 0 x (omega arith) (omega arith)) in
    omega arith
