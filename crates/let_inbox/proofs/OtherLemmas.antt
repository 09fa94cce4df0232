-- The other ranks as a list.
use Rattle.std.proofs.Common.{◌≡◌, ◌≢◌, ℕ, zero, suc, ◌+◌, ◌<◌, ◌≤◌, ◌==◌, not, cond, Bool, true, false, List, [], ◌∷◌, ◌++◌, refl, ap, sym, ◌∙◌, arith, map-id}
use mathlib.Core.Logic.{dite}
use native.Mathlib.Decide.{ℕ_discrete}
use Rattle.std.specs.List.{AllPairs, Contains, filter, range_with_len}
use Rattle.std.proofs.lemmas.List.FromFn.{length-range_with_len, get_or-range_with_len, map-range_with_len_more}
use Rattle.std.proofs.lemmas.List.Elements.{filter-append}
use Rattle.std.proofs.lemmas.List.Kept.{AllPairs-filter}
use Rattle.std.proofs.lemmas.List.Sums.{length-filter, count_by-le-length}
use Rattle.let_inbox.specs.Sources.{others_from, others}
use Rattle.let_inbox.specs.Laws.{OthersAscend, OthersAreTheSources, OthersStandInTurn, OthersGrow, OthersAreFew}
use Rattle.let_inbox.proofs.Sources.{others_here, others_past, others_once}

range_ascends : (first n : ℕ) → AllPairs (λ s t. s < t) (range_with_len first n)
range_ascends first n i j d less within =
    let long = length-range_with_len first n in
    let one = get_or-range_with_len first n i d (omega arith) in
    let other = get_or-range_with_len first n j d (omega arith) in
    omega arith

pub others_ascend : OthersAscend
others_ascend rank first n = AllPairs-filter (λ (s t : ℕ). s < t) (λ s. not (s == rank)) (range_with_len first n) (range_ascends first n)

pub others_stand_in_turn : OthersStandInTurn
others_stand_in_turn rank first n = (others_here rank first n, others_past rank first n)

later : (x : ℕ) (xs : List ℕ) (s : ℕ) → Contains xs s → Contains (x ∷ xs) s
later x xs s (k, within, is) = (suc k, omega arith, is)

-- where a rank stands among those from the first on
there : (rank first n s : ℕ) → first ≤ s → s < first + n → s ≢ rank → Contains (others_from rank first n) s
there rank first zero s from below apart = absurd (omega arith)
there rank first (suc n) s from below apart = dite (ℕ_discrete first rank)
    (λ is. rw (others_past rank first n is) (there rank (first + 1) n s (let e : first ≢ s = λ (e : first ≡ s). apart (sym e ∙ is) in omega arith) (omega arith) apart))
    (λ not_rank.
    rw (others_here rank first n not_rank) (dite (ℕ_discrete first s)
    (λ here. (0, omega arith, here))
    (λ past. later first (others_from rank (first + 1) n) s (there rank (first + 1) n s (omega arith) (omega arith) apart))))

one_or_later : (x : ℕ) (xs : List ℕ) (s : ℕ) (P : Type 0) → (x ≡ s → P) → (Contains xs s → P) → Contains (x ∷ xs) s → P
one_or_later x xs s P here rest (zero, within, is) = here is
one_or_later x xs s P here rest (suc k, within, is) = rest (k, omega arith, is)

is_other : (rank first n s : ℕ) → Contains (others_from rank first n) s → (s < first + n) × (s ≢ rank)
is_other rank first zero s (k, within, is) = absurd (omega arith)
is_other rank first (suc n) s h = dite (ℕ_discrete first rank)
    (λ is. let rest = is_other rank (first + 1) n s (rw (others_past rank first n is) at h) in (let below = rest.0 in omega arith, rest.1))
    (λ not_rank.
    one_or_later first (others_from rank (first + 1) n) s ((s < first + suc n) × (s ≢ rank))
    (λ here. (omega arith, λ e. not_rank (here ∙ e)))
    (λ past. let rest = is_other rank (first + 1) n s past in (let below = rest.0 in omega arith, rest.1))
    (rw (others_here rank first n not_rank) at h))

pub others_are_the_sources : OthersAreTheSources
others_are_the_sources rank ranks = (
  others_once rank ranks,
  λ s. (λ h. let both = is_other rank 0 ranks s h in (let below = both.0 in omega arith, both.1), λ is. there rank 0 ranks s (omega arith) (let below = is.0 in omega arith) is.1),
)

range_more : (n : ℕ) → range_with_len 0 (n + 1) ≡ range_with_len 0 n ++ n ∷ []
range_more n =
    sym (map-id (range_with_len 0 (n + 1))) ∙ map-range_with_len_more (λ (x : ℕ). x) 0 n n (omega arith) ∙ ap (λ l. l ++ n ∷ []) (map-id (range_with_len 0 n))

turned : (b : Bool) (xs : List ℕ) → cond (not b) xs [] ≡ cond b [] xs
turned true xs = refl
turned false xs = refl

pub others_grow : OthersGrow
others_grow rank n =
    let test : ℕ → Bool = λ s. not (s == rank) in
    ap (filter test) (range_more n) ∙ filter-append test (range_with_len 0 n) (n ∷ []) ∙ ap (λ l. others rank n ++ l) (turned (n == rank) (n ∷ []))

pub others_are_few : OthersAreFew
others_are_few rank first n =
    let kept = length-filter (λ s. not (s == rank)) (range_with_len first n) in
    let few = count_by-le-length (λ s. not (s == rank)) (range_with_len first n) in
    let all = length-range_with_len first n in
    omega arith
