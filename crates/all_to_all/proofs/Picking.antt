-- What is for one rank, among what a rank has for each other.
use Rattle.std.proofs.Common.{◌≡◌, ◌≢◌, ℕ, zero, suc, ◌+◌, ◌<◌, ◌≤◌, ◌==◌, not, cond, true, false, Bool, List, [], ◌∷◌, ◌++◌, map, filter, flat_map, refl, ap, sym, ◌∙◌, arith, eq-eqb, ne_eqb}
use mathlib.Core.Logic.{dite}
use native.Mathlib.Decide.{ℕ_discrete}
use Rattle.std.specs.List.{range_with_len}
use Rattle.let_inbox.specs.Sources.{others_from, others}
use Rattle.let_inbox.specs.Laws.{OthersStandInTurn}

keeps : (rank x : ℕ) (xs : List ℕ) → x ≡ rank → filter (λ y. y == rank) (x ∷ xs) ≡ x ∷ filter (λ y. y == rank) xs
keeps rank x xs is = ap (λ (b : Bool). cond {A = List ℕ} b (x ∷ filter (λ y. y == rank) xs) (filter (λ y. y == rank) xs)) (eq-eqb x rank is)

drops : (rank x : ℕ) (xs : List ℕ) → x ≢ rank → filter (λ y. y == rank) (x ∷ xs) ≡ filter (λ y. y == rank) xs
drops rank x xs apart = ap (λ (b : Bool). cond {A = List ℕ} b (x ∷ filter (λ y. y == rank) xs) (filter (λ y. y == rank) xs)) (ne_eqb x rank apart)

none_past : OthersStandInTurn → (q rank first n : ℕ) → rank < first → filter (λ y. y == rank) (others_from q first n) ≡ []
none_past turn q rank first zero past = refl
none_past turn q rank first (suc n) past =
    let rest = none_past turn q rank (first + 1) n (omega arith) in
    dite (ℕ_discrete first q)
    (λ is. ap (filter (λ y. y == rank)) ((turn q first n).1 is) ∙ rest)
    (λ apart. ap (filter (λ y. y == rank)) ((turn q first n).0 apart) ∙ drops rank first (others_from q (first + 1) n) (λ same. omega arith) ∙ rest)

-- a rank stands once among the ranks other than q, unless it is q
picked_from : OthersStandInTurn → (q rank first n : ℕ) → first ≤ rank → rank < first + n → filter (λ y. y == rank) (others_from q first n) ≡ cond (q == rank) [] (rank ∷ [])
picked_from turn q rank first zero a b = absurd (omega arith)
picked_from turn q rank first (suc n) a b =
    let one : Bool → List ℕ = λ t. cond t [] (rank ∷ []) in
    let rest : List ℕ = others_from q (first + 1) n in
    dite (ℕ_discrete first rank)
    (λ here. let none = none_past turn q rank (first + 1) n (omega arith) in
    dite (ℕ_discrete first q)
    (λ is. ap (filter (λ y. y == rank)) ((turn q first n).1 is) ∙ none ∙ sym (ap one (eq-eqb q rank (sym is ∙ here))))
    (λ apart. ap (filter (λ y. y == rank)) ((turn q first n).0 apart) ∙ keeps rank first rest here ∙ (λ i. here i ∷ none i) ∙ sym (ap one (ne_eqb q rank (λ e. apart (here ∙ sym e))))))
    (λ later. let more = picked_from turn q rank (first + 1) n (omega arith) (omega arith) in
    dite (ℕ_discrete first q)
    (λ is. ap (filter (λ y. y == rank)) ((turn q first n).1 is) ∙ more)
    (λ apart. ap (filter (λ y. y == rank)) ((turn q first n).0 apart) ∙ drops rank first rest later ∙ more))

pub picked : OthersStandInTurn → (q rank ranks : ℕ) → rank < ranks → filter (λ y. y == rank) (others q ranks) ≡ cond (q == rank) [] (rank ∷ [])
picked turn q rank ranks within = picked_from turn q rank 0 ranks (omega arith) (omega arith)

cond_map : {A B : Type 0} (f : A → B) (b : Bool) (x : A) (xs : List A) → map f (cond b (x ∷ xs) xs) ≡ cond b (f x ∷ map f xs) (map f xs)
cond_map f true x xs = refl
cond_map f false x xs = refl

-- those with a key, by their keys
pub picked_keys : {A : Type 0} (key : A → ℕ) (rank : ℕ) (xs : List A) → map key (filter (λ x. key x == rank) xs) ≡ filter (λ y. y == rank) (map key xs)
picked_keys key rank [] = refl
picked_keys {A} key rank (x ∷ xs) =
    cond_map key (key x == rank) x (filter (λ x. key x == rank) xs)
    ∙ ap (λ ys. cond (key x == rank) (key x ∷ ys) ys) (picked_keys key rank xs)

module _ {M : Type 0} (target : M → ℕ) (parcel : ℕ → ℕ → M) (names : (q p : ℕ) → target (parcel q p) ≡ p) where
  picked_parcels : (q rank : ℕ) (xs : List ℕ) → filter (λ m. target m == rank) (map (parcel q) xs) ≡ map (parcel q) (filter (λ y. y == rank) xs)
  picked_parcels q rank [] = refl
  picked_parcels q rank (x ∷ xs) =
      (λ i. cond (names q x i == rank) (parcel q x ∷ picked_parcels q rank xs i) (picked_parcels q rank xs i))
      ∙ sym (cond_map (parcel q) (x == rank) x (filter (λ y. y == rank) xs))

  one_more : (q rank : ℕ) (b : Bool) (rest : List M) (xs : List ℕ) → rest ≡ map (λ q. parcel q rank) xs
      → map (parcel q) (cond b [] (rank ∷ [])) ++ rest ≡ map (λ q. parcel q rank) (cond (not b) (q ∷ xs) xs)
  one_more q rank true rest xs is = is
  one_more q rank false rest xs is = ap (λ ms. parcel q rank ∷ ms) is

  from_each : (rank : ℕ) (qs : List ℕ) → flat_map (λ q. map (parcel q) (cond (q == rank) [] (rank ∷ []))) qs ≡ map (λ q. parcel q rank) (filter (λ q. not (q == rank)) qs)
  from_each rank [] = refl
  from_each rank (q ∷ qs) = one_more q rank (q == rank) (flat_map (λ q. map (parcel q) (cond (q == rank) [] (rank ∷ []))) qs) (filter (λ q. not (q == rank)) qs) (from_each rank qs)

  pub one_from_each : OthersStandInTurn → (ranks rank : ℕ) → rank < ranks
      → flat_map (λ q. filter (λ m. target m == rank) (map (parcel q) (others q ranks))) (range_with_len 0 ranks) ≡ map (λ q. parcel q rank) (others rank ranks)
  one_from_each turn ranks rank within =
      (λ i. flat_map (λ q. (picked_parcels q rank (others q ranks) ∙ ap (map (parcel q)) (picked turn q rank ranks within)) i) (range_with_len 0 ranks))
      ∙ from_each rank (range_with_len 0 ranks)
