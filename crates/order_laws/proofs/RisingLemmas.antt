-- Lists in an order, and lists that are dealt out by a key.
use Rattle.std.proofs.Common.{◌≡◌, ℕ, zero, suc, ◌+◌, ◌<◌, ◌≤◌, Bool, true, false, List, [], ◌∷◌, ◌++◌, length, get_or, map, ltb, nat_eq, inl, inr, refl, sym, ◌∙◌, subst, arith}
use Rattle.std.specs.List.{AllPairs, Contains, IsDistinct, filter, flat_map, range_with_len}
use Rattle.std.specs.List.Sorted.{IsPermutation, IsNonDecreasingBy}
use Rattle.std.proofs.lemmas.Bool.{cases_lt, cases_eq, cond-true, cond-false, eq-eqb, ne_eqb, lt-ltb, ltb-true, false≢true}
use Rattle.std.proofs.lemmas.Bool.Decides.{Decides-eqb}
use Rattle.std.proofs.lemmas.List.{length-map, get_or-map}
use Rattle.std.proofs.lemmas.List.Sorted.{IsPermutation-refl, IsPermutation-cons, IsPermutation-sym, IsPermutation-trans, IsPermutation-middle, IsPermutation-append_right, IsPermutation-map, Contains-permutation}
use Rattle.std.proofs.lemmas.Map.Keys.{IsDistinct-IsPermutation}
use Rattle.std.proofs.lemmas.Map.Made.{AllPairs-from_IsDistinct, IsDistinct-from_AllPairs}
use Rattle.order_laws.specs.Order.{in_order_once}
use Rattle.order_laws.specs.OrderLaws.{ListsInOrderAreOne, RisingListsAreOne, DistinctKeysRise, SortsByKeyAreOne, PartsByKeyAreAll}
use Rattle.order_laws.proofs.OrderLemmas.{In, IsStrict, IsConnected, IsAscending, before_each, IsAscending-in_order, in_from_in_order, in_order_from_in, same_ascending}
use Rattle.order_laws.proofs.ElementLemmas.{in_from_contains, contains_from_in, ascending_from_pairs, eqb_flips, element_at}

-- elements that a permutation has
pub permuted_in : {X : Type 0} (xs ys : List X) (x : X) → IsPermutation xs ys → In x xs → In x ys
permuted_in xs ys x h i = in_from_contains ys x (Contains-permutation xs ys x h (contains_from_in xs x i))

-- elements of an ascending list of which neither comes before the other are one
level_ascending : {X : Type 0} (before : X → X → Bool) (ys : List X) → IsAscending before ys → (x y : X) → In x ys → In y ys → before x y ≡ false → before y x ≡ false → y ≡ x
level_ascending before [] a x y i k e f = absurd i
level_ascending before (z ∷ zs) a x y (inl s) (inl r) e f = sym r ∙ s
level_ascending {X} before (z ∷ zs) a x y (inl s) (inr k) e f =
    let P : X → Type 0 = λ v. before v y ≡ true in absurd (false≢true (sym e ∙ subst P s (before_each before z zs y k a.0)))
level_ascending {X} before (z ∷ zs) a x y (inr i) (inl r) e f =
    let P : X → Type 0 = λ v. before v x ≡ true in absurd (false≢true (sym f ∙ subst P r (before_each before z zs x i a.0)))
level_ascending before (z ∷ zs) a x y (inr i) (inr k) e f = level_ascending before zs a.1 x y i k e f

pub lists_in_order_are_one : {X : Type 0} → ListsInOrderAreOne X
lists_in_order_are_one {X} before xs ys strict h ordered =
    let s : IsStrict before = record { irreflexive = strict.irreflexive; transitive = strict.transitive } in
    let up : IsAscending before ys = ascending_from_pairs before ys ordered in
    let back = IsPermutation-sym xs ys h in
    let connected : IsConnected before xs = λ x y i k e f. level_ascending before ys up x y (permuted_in xs ys x h i) (permuted_in xs ys y h k) e f in
    same_ascending before s (in_order_once before xs) ys (IsAscending-in_order before s xs) up
    (λ w i. permuted_in xs ys w h (in_from_in_order before xs w i))
    (λ w i. in_order_from_in before xs connected w (permuted_in ys xs w back i))

module _ {X : Type 0} (key : X → ℕ) where
  abbrev Rises : List X → Type 0
  Rises xs = AllPairs (λ x y. key x < key y) xs

  abbrev has_lower_key : X → X → Bool
  has_lower_key x y = ltb (key x) (key y)

  lower_key-strict : IsStrict has_lower_key
  lower_key-strict = record {
    irreflexive = λ x e. (let h = ltb-true (key x) (key x) e in absurd (omega arith));
    transitive = λ x y z e f. (let g = ltb-true (key x) (key y) e in let h = ltb-true (key y) (key z) f in lt-ltb (key x) (key z) (omega arith));
  }

  ascends : (xs : List X) → Rises xs → IsAscending has_lower_key xs
  ascends xs up = ascending_from_pairs has_lower_key xs (λ i j d less within. lt-ltb (key (get_or xs i d)) (key (get_or xs j d)) (up i j d less within))

  rising_one : (xs ys : List X) → Rises xs → Rises ys → ((x : X) → Contains xs x → Contains ys x) → ((x : X) → Contains ys x → Contains xs x) → xs ≡ ys
  rising_one xs ys up vp forth back =
      same_ascending has_lower_key lower_key-strict xs ys (ascends xs up) (ascends ys vp)
      (λ w i. in_from_contains ys w (forth w (contains_from_in xs w i)))
      (λ w i. in_from_contains xs w (back w (contains_from_in ys w i)))

  keys_differ : (xs : List X) → Rises xs → IsDistinct nat_eq (map key xs)
  keys_differ xs up =
      IsDistinct-from_AllPairs Decides-eqb (map key xs)
      (λ i j d less within e.
      let long = length-map xs key in
      let inside : j < length xs = omega arith in
      let x = element_at xs j inside in
      let a = up i j x less inside in
      let first = get_or-map key xs i x d (omega arith) in
      let second = get_or-map key xs j x d inside in
      omega arith)

  -- so that those that don't fall rise
  differ_rise : (ys : List X) → IsDistinct nat_eq (map key ys) → IsNonDecreasingBy key ys → Rises ys
  differ_rise ys distinct sorted i j d less within =
      let long = length-map ys key in
      let least = sorted i j d (omega arith) within in
      elim (cases_lt (key (get_or ys i d)) (key (get_or ys j d))) [
        | inl below ↦ below
        | inr above ↦ absurd (AllPairs-from_IsDistinct Decides-eqb (map key ys) distinct i j 0 less (omega arith)
            (get_or-map key ys i d 0 (omega arith) ∙ (let e : key (get_or ys i d) ≡ key (get_or ys j d) = omega arith in e) ∙ sym (get_or-map key ys j d 0 within)))
      ]

  -- in any order they differ
  rises_sorted : (xs ys : List X) → Rises xs → IsPermutation xs ys → IsNonDecreasingBy key ys → Rises ys
  rises_sorted xs ys up same sorted =
      differ_rise ys (IsDistinct-IsPermutation nat_eq eqb_flips (map key xs) (map key ys) (IsPermutation-map key xs ys same) (keys_differ xs up)) sorted

  sort_one : (xs ys : List X) → Rises xs → IsPermutation xs ys → IsNonDecreasingBy key ys → ys ≡ xs
  sort_one xs ys up same sorted =
      rising_one ys xs (rises_sorted xs ys up same sorted) up (λ z. Contains-permutation ys xs z (IsPermutation-sym xs ys same)) (λ z. Contains-permutation xs ys z same)

  -- each element goes to the number that its key is
  abbrev part : List X → ℕ → List X
  part xs n = filter (λ x. nat_eq (key x) n) xs

  part_before : (x : X) (xs : List X) (start len : ℕ) → key x < start → flat_map (part (x ∷ xs)) (range_with_len start len) ≡ flat_map (part xs) (range_with_len start len)
  part_before x xs start zero less = refl
  part_before x xs start (suc len) less =
      let here : part (x ∷ xs) start ≡ part xs start = cond-false (nat_eq (key x) start) (x ∷ part xs start) (part xs start) (ne_eqb (key x) start (λ e. omega arith)) in
      (λ i. here i ++ part_before x xs (start + 1) len (omega arith) i)

  part_once : (x : X) (xs : List X) (start len : ℕ) → start ≤ key x → key x < start + len →
      IsPermutation (x ∷ flat_map (part xs) (range_with_len start len)) (flat_map (part (x ∷ xs)) (range_with_len start len))
  part_once x xs start zero from within = absurd (omega arith)
  part_once x xs start (suc len) from within =
      let rest : List X = flat_map (part xs) (range_with_len (start + 1) len) in
      let others : List X = flat_map (part (x ∷ xs)) (range_with_len (start + 1) len) in
      elim (cases_eq (key x) start) [
        | inl same ↦
            let here : x ∷ part xs start ≡ part (x ∷ xs) start = sym (cond-true (nat_eq (key x) start) (x ∷ part xs start) (part xs start) (eq-eqb (key x) start same)) in
            let after : rest ≡ others = sym (part_before x xs (start + 1) len (omega arith)) in
            subst (IsPermutation (x ∷ (part xs start ++ rest))) (λ i. here i ++ after i) (IsPermutation-refl (x ∷ (part xs start ++ rest)))
        | inr other ↦
            let here : part xs start ≡ part (x ∷ xs) start = sym (cond-false (nat_eq (key x) start) (x ∷ part xs start) (part xs start) (ne_eqb (key x) start other)) in
            let later = part_once x xs (start + 1) len (omega arith) (omega arith) in
            subst (λ (l : List X). IsPermutation (x ∷ (part xs start ++ rest)) (l ++ others)) here
            (IsPermutation-trans (x ∷ (part xs start ++ rest)) (part xs start ++ x ∷ rest) (part xs start ++ others)
            (IsPermutation-sym (part xs start ++ x ∷ rest) (x ∷ (part xs start ++ rest)) (IsPermutation-middle (part xs start) x rest))
            (IsPermutation-append_right (part xs start) (x ∷ rest) others later))
      ]

  part_of_none : (start len : ℕ) → flat_map (part []) (range_with_len start len) ≡ []
  part_of_none start zero = refl
  part_of_none start (suc len) = part_of_none (start + 1) len

  pub dealt_out : (count : ℕ) → ((x : X) → key x < count) → (xs : List X) → IsPermutation xs (flat_map (part xs) (range_with_len 0 count))
  dealt_out count below [] = subst (IsPermutation []) (sym (part_of_none 0 count)) (IsPermutation-refl [])
  dealt_out count below (x ∷ xs) =
      IsPermutation-trans (x ∷ xs) (x ∷ flat_map (part xs) (range_with_len 0 count)) (flat_map (part (x ∷ xs)) (range_with_len 0 count))
      (IsPermutation-cons x xs (flat_map (part xs) (range_with_len 0 count)) (dealt_out count below xs))
      (part_once x xs 0 count (omega arith) (let less = below x in omega arith))

pub rising_lists_are_one : {X : Type 0} → RisingListsAreOne X
rising_lists_are_one key xs ys up vp same = rising_one key xs ys up vp (λ x. (same x).0) (λ x. (same x).1)

pub distinct_keys_rise : {X : Type 0} → DistinctKeysRise X
distinct_keys_rise key xs distinct sorted = differ_rise key xs distinct sorted

pub sorts_by_key_are_one : {X : Type 0} → SortsByKeyAreOne X
sorts_by_key_are_one key xs ys up same sorted = sort_one key xs ys up same sorted

pub parts_by_key_are_all : {X : Type 0} → PartsByKeyAreAll X
parts_by_key_are_all key count xs below = dealt_out key count below xs
