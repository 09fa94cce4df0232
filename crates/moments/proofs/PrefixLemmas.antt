-- The moments of prefixes and ranges of a list.
use Rattle.std.proofs.Common.{◌≡◌, ℕ, ◌+◌, ◌<◌, ◌≤◌, List, [], ◌∷◌, ◌++◌, length, get_or, take, drop, map, refl, sym, ◌∙◌, ap, subst, arith}
use Rattle.std.specs.List.{All, range_with_len}
use Rattle.std.proofs.Math.Seq.{take-add, take-append_seam}
use Rattle.std.proofs.lemmas.List.{length-take, take_more}
use Rattle.std.proofs.lemmas.List.FromFn.{length-map-range_with_len, get_or-map-range_with_len, map-range_with_len_more}
use Rattle.std.proofs.lemmas.List.Elements.{All-same, All-push}
use Rattle.pf_model.specs.Particle.{Particle}
use Rattle.pf_model.specs.Totals.{Totals, IsTotals}
use Rattle.pf_model.specs.Sums.{moment_of, together}
use Rattle.model_laws.specs.MomentLaws.{MomentsAddUp, HasEachSum}
use Rattle.moments.specs.Prefix.{prefix_moments, HasLimitedMoment}

-- the first n of the prefix moments
abbrev pub first_moments : List Particle → ℕ → List Totals
first_moments js n = map (λ k. moment_of (take k js)) (range_with_len 0 n)

pub prefix_moments_are_first : (js : List Particle) → prefix_moments js ≡ first_moments js (length js + 1)
prefix_moments_are_first js = refl

pub prefix_length : (js : List Particle) → length (prefix_moments js) ≡ length js + 1
prefix_length js = ap length (prefix_moments_are_first js) ∙ length-map-range_with_len (λ k. moment_of (take k js)) 0 (length js + 1)

pub count_is : (js : List Particle) → (moment_of js).count ≡ length js
unfolding moment_of
count_is js = refl

-- the moment of particles has each sum
pub each_sum : (js : List Particle) → HasEachSum (moment_of js)
unfolding moment_of
each_sum js = record { three = refl; eight = refl }

-- the moment at a place
at_prefix : (js : List Particle) (ms : List Totals) (k : ℕ) (d : Totals) → ms ≡ prefix_moments js → k < length ms → get_or ms k d ≡ moment_of (take k js)
at_prefix js ms k d is within =
    let long = ap length is ∙ prefix_length js in
    ap (λ (l : List Totals). get_or l k d) (is ∙ prefix_moments_are_first js) ∙ get_or-map-range_with_len (λ k. moment_of (take k js)) 0 (length js + 1) k k d (omega arith) (omega arith)

-- the moment of a range together with that before it is that through its end
pub range_makes : MomentsAddUp → (js : List Particle) (ms : List Totals) (i n : ℕ) (through before : Totals) → ms ≡ prefix_moments js → i + n < length ms →
    through ≡ get_or ms (i + n) through → before ≡ get_or ms i before → through ≡ together before (moment_of (take n (drop i js)))
range_makes add js ms i n through before is within at_end at_start =
    let before_is = at_start ∙ at_prefix js ms i before is (omega arith) in
    at_end ∙ at_prefix js ms (i + n) through is within ∙ ap moment_of (take-add i n js) ∙ add (take i js) (take n (drop i js))
    ∙ ap (λ (t : Totals). together t (moment_of (take n (drop i js)))) (sym before_is)

-- one particle more

take_one_more : (js : List Particle) (i : ℕ) (j : Particle) → i < length js → j ≡ get_or js i j → take (i + 1) js ≡ take i js ++ (j ∷ [])
take_one_more js i j within at_place = take_more js i j within ∙ ap (λ (k : Particle). take i js ++ (k ∷ [])) (sym at_place)

pub moment_more : MomentsAddUp → (js : List Particle) (i : ℕ) (j : Particle) (so_far one : Totals) → i < length js → j ≡ get_or js i j → so_far ≡ moment_of (take i js) → one ≡ moment_of (j ∷ []) →
    together so_far one ≡ moment_of (take (i + 1) js)
moment_more add js i j so_far one within at_place so_far_is one_is =
    ap (λ (t : Totals). together t one) so_far_is ∙ ap (λ (t : Totals). together (moment_of (take i js)) t) one_is
    ∙ sym (add (take i js) (j ∷ [])) ∙ ap moment_of (sym (take_one_more js i j within at_place))

pub first_moments-more : (js : List Particle) (n : ℕ) (ms : List Totals) (m : Totals) → ms ≡ first_moments js n → m ≡ moment_of (take n js) → ms ++ (m ∷ []) ≡ first_moments js (n + 1)
first_moments-more js n ms m ms_are m_is =
    ap (λ (l : List Totals). l ++ (m ∷ [])) ms_are ∙ ap (λ (t : Totals). first_moments js n ++ (t ∷ [])) m_is ∙ sym (map-range_with_len_more (λ k. moment_of (take k js)) 0 n n (omega arith))

pub limits_more : (js : List Particle) (i : ℕ) (j : Particle) (one : Totals) → i < length js → j ≡ get_or js i j → All HasLimitedMoment (take i js) → IsTotals one → one ≡ moment_of (j ∷ []) → All HasLimitedMoment (take (i + 1) js)
limits_more js i j one within at_place limits here one_is =
    All-same HasLimitedMoment (take (i + 1) js) (take i js ++ (j ∷ [])) (take_one_more js i j within at_place) (All-push HasLimitedMoment (take i js) j limits (subst IsTotals one_is here))

pub count_more : (js : List Particle) (i : ℕ) (j : Particle) (so_far one : Totals) → i < length js → length js ≤ 65536 → so_far ≡ moment_of (take i js) → one ≡ moment_of (j ∷ []) → so_far.count + one.count ≤ 65536
count_more js i j so_far one within few so_far_is one_is =
    let a = ap (λ (t : Totals). t.count) so_far_is ∙ count_is (take i js) ∙ length-take i js in
    let b = ap (λ (t : Totals). t.count) one_is ∙ count_is (j ∷ []) in
    omega arith

-- what is written to a whole list is what it holds then
pub put_back : (len : ℕ) (old new : List Totals) → len ≡ length new → take len (new ++ drop (length new) old) ≡ new
put_back len old new whole = ap (λ (n : ℕ). take n (new ++ drop (length new) old)) whole ∙ take-append_seam new (drop (length new) old)
