-- The other ranks as a list, and lists of them without repetition.
use Rattle.std.proofs.Common.{◌≡◌, ◌≢◌, ℕ, suc, ◌+◌, ◌-◌, ◌<◌, ◌≤◌, ◌==◌, cond, true, false, Bool, List, [], ◌∷◌, ◌++◌, length, nat_eq, All, refl, ap, sym, ◌∙◌, arith, eq-eqb, ne_eqb, map-id}
use mathlib.Core.Logic.{dite}
use native.Mathlib.Decide.{ℕ_discrete}
use Rattle.std.specs.List.{range_with_len, list_any, AllByRecursion, IsDistinct}
use Rattle.std.proofs.lemmas.Bool.{false≢true}
use Rattle.std.proofs.lemmas.List.FromFn.{map-range_with_len_more}
use Rattle.std.proofs.lemmas.List.Elements.{All-head, All-tail, All-cons, All-weaker, recursion_from_All}
use Rattle.std.proofs.lemmas.List.Sums.{sum_by-cons}
use Rattle.std.proofs.lemmas.Map.Keys.{IsDistinct-cons}
use Rattle.std.proofs.lemmas.Map.Steps.{length-le_from_distinct_below}
use Rattle.let_inbox.specs.Sources.{IsSource, others_from, times}
use Rattle.let_inbox.specs.Laws.{OthersStandInTurn}

-- a number that stands nowhere in a list
pub none_there : (x : ℕ) (xs : List ℕ) → times x xs ≡ 0 → list_any (nat_eq x) xs ≡ false
none_there x [] none = refl
none_there x (y ∷ ys) none =
    let e = sum_by-cons (λ z. cond (z == x) 1 0) y ys in
    dite (ℕ_discrete y x)
    (λ is. let one : cond (y == x) 1 0 ≡ 1 = ap (λ (b : Bool). cond {A = ℕ} b 1 0) (eq-eqb y x is) in absurd (omega arith))
    (λ apart. let rest : times x ys ≡ 0 = omega arith in rw (ne_eqb x y (λ is. apart (sym is))) (none_there x ys rest))

any_below : (n q : ℕ) (xs : List ℕ) → All (λ x. x < n) xs → list_any (nat_eq q) xs ≡ true → q < n
any_below n q [] all there = absurd (false≢true there)
any_below n q (x ∷ xs) all there = dite (ℕ_discrete q x)
    (λ is. let h = All-head (λ x. x < n) x xs all in omega arith)
    (λ apart. any_below n q xs (All-tail (λ x. x < n) x xs all) (rw (ne_eqb q x apart) at there))

-- sources that differ are fewer than the ranks
pub few_sources : (rank ranks : ℕ) (xs : List ℕ) → rank < ranks → All (IsSource rank ranks) xs → IsDistinct nat_eq xs → length xs ≤ ranks - 1
few_sources rank ranks xs within known distinct =
    let apart : AllByRecursion (λ y. nat_eq rank y ≡ false) xs = recursion_from_All (λ y. nat_eq rank y ≡ false) xs (λ k d h. ne_eqb rank _ (λ is. (known k d h).1 (sym is))) in
    let below : All (λ x. x < ranks) (rank ∷ xs) = All-cons (λ x. x < ranks) rank xs within (All-weaker (IsSource rank ranks) (λ x. x < ranks) (λ x h. h.0) xs known) in
    let all = length-le_from_distinct_below (rank ∷ xs) ranks (IsDistinct-cons nat_eq rank xs apart distinct) (λ q there. any_below ranks q (rank ∷ xs) below there) in
    omega arith

pub left_here : OthersStandInTurn → (rank first ranks : ℕ) → first < ranks → first ≢ rank → others_from rank first (ranks - first) ≡ first ∷ others_from rank (first + 1) (ranks - (first + 1))
left_here turn rank first ranks below apart =
    let e : ranks - first ≡ suc (ranks - (first + 1)) = omega arith in ap (others_from rank first) e ∙ (turn rank first (ranks - (first + 1))).0 apart

pub left_past : OthersStandInTurn → (rank first ranks : ℕ) → first < ranks → first ≡ rank → others_from rank first (ranks - first) ≡ others_from rank (first + 1) (ranks - (first + 1))
left_past turn rank first ranks below is =
    let e : ranks - first ≡ suc (ranks - (first + 1)) = omega arith in ap (others_from rank first) e ∙ (turn rank first (ranks - (first + 1))).1 is

pub ranks_more : (n : ℕ) → range_with_len 0 (n + 1) ≡ range_with_len 0 n ++ n ∷ []
ranks_more n = sym (map-id (range_with_len 0 (n + 1))) ∙ map-range_with_len_more (λ (x : ℕ). x) 0 n n (omega arith)
    ∙ ap (λ ys. ys ++ n ∷ []) (map-id (range_with_len 0 n))
