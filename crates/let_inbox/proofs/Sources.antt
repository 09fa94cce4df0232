-- Lists of sources, and how often each stands in them.
use Rattle.std.proofs.Common.{◌≡◌, ◌≢◌, ℕ, zero, suc, ◌+◌, ◌-◌, ◌<◌, ◌≤◌, ◌==◌, not, cond, Bool, List, [], ◌∷◌, ◌++◌, length, map, refl, ap, sym, ◌∙◌, arith, eq-eqb, ne_eqb, sum_by}
use mathlib.Core.Logic.{dite}
use native.Mathlib.Decide.{ℕ_discrete, dec_lt}
use Rattle.std.proofs.lemmas.List.Sums.{sum_by-append, sum_by-cons}
use Rattle.let_inbox.specs.Sources.{IsSource, HasEachSource, others_from, others, times}

-- 1 where y is x, and else 0
abbrev pub is_it : ℕ → ℕ → ℕ
is_it x y = cond (y == x) 1 0

same_is_it : (x : ℕ) → is_it x x ≡ 1
same_is_it x = ap (λ (b : Bool). cond {A = ℕ} b 1 0) (eq-eqb x x refl)

other_is_not : (x y : ℕ) → y ≢ x → is_it x y ≡ 0
other_is_not x y apart = ap (λ (b : Bool). cond {A = ℕ} b 1 0) (ne_eqb y x apart)

pub times-append : (x : ℕ) (xs ys : List ℕ) → times x (xs ++ ys) ≡ times x xs + times x ys
times-append x xs ys = sum_by-append (is_it x) xs ys

pub times-cons : (x y : ℕ) (ys : List ℕ) → times x (y ∷ ys) ≡ is_it x y + times x ys
times-cons x y ys = sum_by-cons (is_it x) y ys

pub times_first : (x : ℕ) (xs : List ℕ) → times x (x ∷ xs) ≡ 1 + times x xs
times_first x xs = let a = times-cons x x xs in let b = same_is_it x in omega arith

pub times_map : {M : Type 0} (source : M → ℕ) (x : ℕ) (ms : List M) → times x (map source ms) ≡ sum_by (λ m. is_it x (source m)) ms
times_map source x [] = refl
times_map source x (m ∷ ms) = let r = times_map source x ms in let a = times-cons x (source m) (map source ms) in let b = sum_by-cons (λ m. is_it x (source m)) m ms in omega arith

pub others_here : (rank first n : ℕ) → first ≢ rank → others_from rank first (suc n) ≡ first ∷ others_from rank (first + 1) n
others_here rank first n apart = ap (λ (b : Bool). cond {A = List ℕ} (not b) (first ∷ others_from rank (first + 1) n) (others_from rank (first + 1) n)) (ne_eqb first rank apart)

pub others_past : (rank first n : ℕ) → first ≡ rank → others_from rank first (suc n) ≡ others_from rank (first + 1) n
others_past rank first n is = ap (λ (b : Bool). cond {A = List ℕ} (not b) (first ∷ others_from rank (first + 1) n) (others_from rank (first + 1) n)) (eq-eqb first rank is)

pub left_here : (rank first ranks : ℕ) → first < ranks → first ≢ rank → others_from rank first (ranks - first) ≡ first ∷ others_from rank (first + 1) (ranks - (first + 1))
left_here rank first ranks below apart = let e : ranks - first ≡ suc (ranks - (first + 1)) = omega arith in ap (others_from rank first) e ∙ others_here rank first _ apart

pub left_past : (rank first ranks : ℕ) → first < ranks → first ≡ rank → others_from rank first (ranks - first) ≡ others_from rank (first + 1) (ranks - (first + 1))
left_past rank first ranks below is = let e : ranks - first ≡ suc (ranks - (first + 1)) = omega arith in ap (others_from rank first) e ∙ others_past rank first _ is

-- a number that isn't among n numbers from the first on
out : (rank first n s : ℕ) → (first ≤ s → s < first + n → s ≡ rank) → times s (others_from rank first n) ≡ 0
out rank first zero s not = refl
out rank first (suc n) s not =
    let r = out rank (first + 1) n s (λ a b. not (omega arith) (omega arith)) in
    dite (ℕ_discrete first rank)
    (λ is. ap (times s) (others_past rank first n is) ∙ r)
    (λ apart.
    let differs : first ≢ s = λ (e : first ≡ s). apart (e ∙ not (omega arith) (omega arith)) in
    let a = times-cons s first (others_from rank (first + 1) n) in
    let b = other_is_not s first differs in
    let c : times s (others_from rank first (suc n)) ≡ times s (first ∷ others_from rank (first + 1) n) = ap (times s) (others_here rank first n apart) in omega arith)

within : (rank first n s : ℕ) → first ≤ s → s < first + n → s ≢ rank → times s (others_from rank first n) ≡ 1
within rank first zero s a b apart = absurd (omega arith)
within rank first (suc n) s a b apart = dite (ℕ_discrete first rank)
    (λ is. ap (times s) (others_past rank first n is) ∙ within rank (first + 1) n s (let e : first ≢ s = λ (e : first ≡ s). apart (sym e ∙ is) in omega arith) (omega arith) apart)
    (λ not_rank.
    let c : times s (others_from rank first (suc n)) ≡ times s (first ∷ others_from rank (first + 1) n) = ap (times s) (others_here rank first n not_rank) in
    let d = times-cons s first (others_from rank (first + 1) n) in
    dite (ℕ_discrete first s)
    (λ here. let e : is_it s first ≡ 1 = ap (is_it s) here ∙ same_is_it s in let r = out rank (first + 1) n s (λ a b. absurd (omega arith)) in omega arith)
    (λ later. let e = other_is_not s first later in let r = within rank (first + 1) n s (omega arith) (omega arith) apart in omega arith))

pub others_once : (rank ranks : ℕ) → HasEachSource rank ranks (others rank ranks)
others_once rank ranks = record {
  each = λ s is. within rank 0 ranks s (omega arith) (let a = is.0 in omega arith) is.1;
  others = λ s is_not. out rank 0 ranks s (λ _ below. dite (ℕ_discrete s rank) (λ is. is) (λ apart. absurd (is_not ((let b = below in omega arith), apart))));
}

count_past : (rank first n : ℕ) → rank < first → length (others_from rank first n) ≡ n
count_past rank first zero past = refl
count_past rank first (suc n) past = let r = count_past rank (first + 1) n (omega arith) in
    let e : length (others_from rank first (suc n)) ≡ length (first ∷ others_from rank (first + 1) n) = ap length (others_here rank first n (λ is. omega arith)) in omega arith

count_from : (rank first n : ℕ) → first ≤ rank → rank < first + n → length (others_from rank first n) ≡ n - 1
count_from rank first zero a b = absurd (omega arith)
count_from rank first (suc n) a b = dite (ℕ_discrete first rank)
    (λ is. let r = count_past rank (first + 1) n (omega arith) in let e : length (others_from rank first (suc n)) ≡ length (others_from rank (first + 1) n) = ap length (others_past rank first n is) in omega arith)
    (λ apart. let r = count_from rank (first + 1) n (omega arith) (omega arith) in
    let e : length (others_from rank first (suc n)) ≡ length (first ∷ others_from rank (first + 1) n) = ap length (others_here rank first n apart) in omega arith)

pub count_others : (rank ranks : ℕ) → rank < ranks → length (others rank ranks) ≡ ranks - 1
count_others rank ranks h = count_from rank 0 ranks (omega arith) (omega arith)

-- such a list has no number twice, and one that stands in it is a source
pub once_at_most : (rank ranks : ℕ) (xs : List ℕ) → HasEachSource rank ranks xs → (s : ℕ) → times s xs ≤ 1
once_at_most rank ranks xs once s = dite (dec_lt s ranks)
    (λ below. dite (ℕ_discrete s rank) (λ is. let e = once.others s (λ h. h.1 is) in omega arith) (λ apart. let e = once.each s (below, apart) in omega arith))
    (λ past. let e = once.others s (λ h. past h.0) in omega arith)

pub stands_for_source : (rank ranks : ℕ) (xs : List ℕ) → HasEachSource rank ranks xs → (s : ℕ) → 0 < times s xs → IsSource rank ranks s
stands_for_source rank ranks xs once s there = dite (dec_lt s ranks)
    (λ below. dite (ℕ_discrete s rank) (λ is. let e = once.others s (λ h. h.1 is) in absurd (omega arith)) (λ apart. (below, apart)))
    (λ past. let e = once.others s (λ h. past h.0) in absurd (omega arith))

pub once_again : (rank ranks : ℕ) (xs ys : List ℕ) → HasEachSource rank ranks xs → ((s : ℕ) → times s ys ≡ times s xs) → HasEachSource rank ranks ys
once_again rank ranks xs ys once same = record { each = λ s h. same s ∙ once.each s h; others = λ s h. same s ∙ once.others s h }
