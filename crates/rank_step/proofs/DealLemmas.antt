-- Particles that are dealt out to ranks by their places.
use Rattle.std.proofs.Common.{◌≡◌, ℕ, ◌+◌, ◌%◌, ◌<◌, ◌≤◌, Bool, true, false, cond, List, [], ◌∷◌, ◌++◌, length, get_or, take, map, nat_eq, refl, sym, ◌∙◌, ap, subst, arith}
use Rattle.std.specs.List.{AllPairs, enumerate_from, filter, flat_map, range_with_len}
use Rattle.std.specs.List.Sorted.{IsPermutation, IsStrictlyIncreasing}
use Rattle.std.proofs.lemmas.Bool.{cond-true, cond-false, eq-eqb, ne_eqb}
use Rattle.std.proofs.lemmas.List.{append-nil, get_or-map, length-map, map-append, take_all}
use Rattle.std.proofs.lemmas.List.Elements.{filter_more}
use Rattle.std.proofs.lemmas.List.FromFn.{get_or-enumerate_from, length-enumerate_from}
use Rattle.std.proofs.lemmas.List.Kept.{AllPairs-filter}
use Rattle.std.proofs.lemmas.List.Sorted.{IsPermutation-map}
use Rattle.pf_model.specs.Division.{Division, IsDivision, rank_count}
use Rattle.pf_model.specs.Particle.{Particle}
use Rattle.exchange.specs.States.{Holding, AreInIdOrder}
use Rattle.exchange.specs.ExchangeLaws.{particles_held}
use Rattle.rank_step.specs.Laws.{DealLaws}
use Rattle.rank_step.specs.Ranks.{HaveTogether, dealt_to, first_ranks}

-- ---- what ranks have by number

abbrev pub rank_with : (ℕ → List Particle) → ℕ → Holding
rank_with f rank = record { rank = rank; bodies = f rank }

numbers_of : (f : ℕ → List Particle) (ns : List ℕ) → map (λ (h : Holding). h.rank) (map (rank_with f) ns) ≡ ns
numbers_of f [] = refl
numbers_of f (n ∷ ns) = ap (λ rest. n ∷ rest) (numbers_of f ns)

held_by : (f : ℕ → List Particle) (ns : List ℕ) → particles_held (map (rank_with f) ns) ≡ flat_map f ns
held_by f [] = refl
held_by f (n ∷ ns) = ap (λ rest. f n ++ rest) (held_by f ns)

have_together : (g : Division) (js : List Particle) (f : ℕ → List Particle) → IsPermutation js (flat_map f (range_with_len 0 (rank_count g))) → HaveTogether g js (map (rank_with f) (range_with_len 0 (rank_count g)))
have_together g js f all = record {
  by_number = numbers_of f (range_with_len 0 (rank_count g));
  all = subst (IsPermutation js) (sym (held_by f (range_with_len 0 (rank_count g)))) all;
}

-- ---- before the first step

remainder : ℕ → ℕ × Particle → ℕ
remainder count n = n.0 % count

dealt : ℕ → List Particle → ℕ → List (ℕ × Particle)
dealt count js rank = filter (λ n. nat_eq (remainder count n) rank) (enumerate_from 0 js)

numbered : (start : ℕ) (js : List Particle) → map (λ (n : ℕ × Particle). n.1) (enumerate_from start js) ≡ js
numbered start [] = refl
numbered start (j ∷ js) = ap (λ rest. j ∷ rest) (numbered (start + 1) js)

map_each : {X Y : Type 0} (f : X → Y) (g : ℕ → List X) (ns : List ℕ) → map f (flat_map g ns) ≡ flat_map (λ n. map f (g n)) ns
map_each f g [] = refl
map_each f g (n ∷ ns) = map-append f (g n) (flat_map g ns) ∙ ap (λ rest. map f (g n) ++ rest) (map_each f g ns)

pub first_together : DealLaws → (g : Division) (js : List Particle) → 1 ≤ rank_count g → HaveTogether g js (first_ranks g js)
unfolding remainder dealt
first_together laws g js some =
    let second = λ (n : ℕ × Particle). n.1 in
    let ranks : List ℕ = range_with_len 0 (rank_count g) in
    let all = laws.parts (remainder (rank_count g)) (rank_count g) (enumerate_from 0 js) (λ n. omega arith) in
    let parts : List (ℕ × Particle) = flat_map (dealt (rank_count g) js) ranks in
    have_together g js (dealt_to (rank_count g) js)
    (subst (λ (l : List Particle). IsPermutation l (flat_map (dealt_to (rank_count g) js) ranks)) (numbered 0 js)
    (subst (IsPermutation (map second (enumerate_from 0 js))) (map_each second (dealt (rank_count g) js) ranks)
    (IsPermutation-map second (enumerate_from 0 js) parts all)))

pub some_ranks : (g : Division) → IsDivision g → 1 ≤ rank_count g
some_ranks g division = (let x = division.some_x in let y = division.some_y in let z = division.some_z in grind arith)

-- the particles at the places before i that leave this rest
abbrev pub dealt_so_far : ℕ → ℕ → List Particle → ℕ → List Particle
dealt_so_far count rest js i = map (λ n. n.1) (filter (λ n. nat_eq (n.0 % count) rest) (take i (enumerate_from 0 js)))

one_or_none : {X Y : Type 0} (f : X → Y) (b : Bool) (x : X) → map f (cond b (x ∷ []) []) ≡ cond b (f x ∷ []) []
one_or_none f true x = refl
one_or_none f false x = refl

module _ (count rest : ℕ) (js : List Particle) (i : ℕ) (j : Particle) (within : i < length js) (is : j ≡ get_or js i j) where
  dealt_more : dealt_so_far count rest js (i + 1) ≡ dealt_so_far count rest js i ++ cond (nat_eq (i % count) rest) (j ∷ []) []
  dealt_more =
      let test = λ (n : ℕ × Particle). nat_eq (n.0 % count) rest in
      let second = λ (n : ℕ × Particle). n.1 in
      let ns : List (ℕ × Particle) = enumerate_from 0 js in
      let long = length-enumerate_from 0 js in
      let place : 0 + i ≡ i = omega arith in
      let here : get_or ns i (0, j) ≡ (i, j) = get_or-enumerate_from 0 js i (0, j) within ∙ (λ k. (place k, sym is k)) in
      ap (map second) (filter_more test ns i (0, j) (omega arith) ∙ ap (λ n. filter test (take i ns) ++ cond (test n) (n ∷ []) []) here)
      ∙ map-append second (filter test (take i ns)) (cond (test (i, j)) ((i, j) ∷ []) [])
      ∙ ap (λ l. map second (filter test (take i ns)) ++ l) (one_or_none second (test (i, j)) (i, j))

  pub dealt_on : (own : List Particle) → i % count ≡ rest → own ≡ dealt_so_far count rest js i → own ++ j ∷ [] ≡ dealt_so_far count rest js (i + 1)
  dealt_on own same were =
      ap (λ l. l ++ j ∷ []) were ∙ ap (λ l. dealt_so_far count rest js i ++ l) (sym (cond-true (nat_eq (i % count) rest) (j ∷ []) [] (eq-eqb (i % count) rest same))) ∙ sym dealt_more

  pub dealt_past : (own : List Particle) → (i % count ≡ rest → ⊥) → own ≡ dealt_so_far count rest js i → own ≡ dealt_so_far count rest js (i + 1)
  dealt_past own other were =
      were ∙ sym (dealt_more ∙ ap (λ l. dealt_so_far count rest js i ++ l) (cond-false (nat_eq (i % count) rest) (j ∷ []) [] (ne_eqb (i % count) rest other)) ∙ append-nil (dealt_so_far count rest js i))

pub dealt_all : (count rest : ℕ) (js : List Particle) (i : ℕ) → length js ≤ i → dealt_so_far count rest js i ≡ dealt_to count js rest
dealt_all count rest js i past =
    let long = length-enumerate_from 0 js in
    ap (λ (l : List (ℕ × Particle)). map (λ n. n.1) (filter (λ n. nat_eq (n.0 % count) rest) l)) (take_all i (enumerate_from 0 js) (omega arith))

-- ---- what is dealt out of ascending particles ascends

abbrev AreAscending : List (ℕ × Particle) → Type 0
AreAscending ns = AllPairs (λ m n. m.1.id < n.1.id) ns

numbered_ascend : (js : List Particle) → AreInIdOrder js → AreAscending (enumerate_from 0 js)
numbered_ascend js up i j d less within =
    let long = length-enumerate_from 0 js in
    let rise = up i j d.1 less (omega arith) in
    let here = ap (λ (n : ℕ × Particle). n.1.id) (get_or-enumerate_from 0 js i d (omega arith)) in
    let there = ap (λ (n : ℕ × Particle). n.1.id) (get_or-enumerate_from 0 js j d (omega arith)) in
    omega (arith, rise, here, there)

pub dealt_in_order : DealLaws → (count rank : ℕ) (js : List Particle) → IsStrictlyIncreasing (map (λ p. p.id) js) → AreInIdOrder (dealt_to count js rank)
dealt_in_order laws count rank js up i j d less within =
    let test = λ (n : ℕ × Particle). nat_eq (n.0 % count) rank in
    let second = λ (n : ℕ × Particle). n.1 in
    let ns : List (ℕ × Particle) = filter test (enumerate_from 0 js) in
    let kept = AllPairs-filter (λ (m n : ℕ × Particle). m.1.id < n.1.id) test (enumerate_from 0 js) (numbered_ascend js ((laws.increase js).1 up)) in
    let long = length-map ns second in
    let rise = kept i j (0, d) less (omega arith) in
    let here = ap (λ (p : Particle). p.id) (get_or-map second ns i (0, d) d (omega arith)) in
    let there = ap (λ (p : Particle). p.id) (get_or-map second ns j (0, d) d (omega arith)) in
    omega (arith, rise, here, there)
