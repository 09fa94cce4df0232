-- Sums of moments, their limits, and the sums of the first of a list.
use Rattle.std.proofs.Common.{◌≡◌, ℕ, ◌+◌, ◌<◌, ◌≤◌, ℤ, List, [], ◌∷◌, ◌++◌, length, get_or, take, drop, map, refl, sym, ◌∙◌, ap, subst, arith}
use Rattle.std.specs.List.{All, range_with_len}
use Rattle.std.proofs.Math.Seq.{take-add}
use Rattle.std.proofs.lemmas.List.{length-map, take-map, take_more}
use Rattle.std.proofs.lemmas.List.FromFn.{length-map-range_with_len, get_or-map-range_with_len, map-range_with_len_more}
use Rattle.std.proofs.lemmas.List.Sums.{sum_by-cons, sum_by-take-le, sum_by-take-drop, sum_by_more_le}
use Rattle.std.proofs.lemmas.List.Elements.{All-nil, All-head, All-tail, All-take, All-drop, All-map, All-same, All-push}
use Rattle.pf_model.specs.Particle.{Particle, IsParticle}
use Rattle.pf_model.specs.Totals.{Totals, IsTotals}
use Rattle.pf_model.specs.Sums.{moment_of, together, all_together, pairwise_sums}
use Rattle.model_laws.specs.MomentLaws.{MomentsAddUp, MomentsJoinInAnyOrder, MomentsKeepTheirLimits, JoinedMomentsKeepTheirLimits, HasEachSum}
use Rattle.moments.specs.Prefix.{prefix_moments, HasLimitedMoment, prefix_sums, particle_count, IsPrefix}
use Rattle.moments.proofs.PrefixLemmas.{count_is, each_sum}

none_together : together (moment_of []) (moment_of []) ≡ moment_of []
unfolding moment_of
none_together = refl

with_none : MomentsJoinInAnyOrder → (ms : List Totals) → together (moment_of []) (all_together ms) ≡ all_together ms
with_none join [] = none_together
with_none join (m ∷ ms) =
    let none = moment_of [] in
    let rest = all_together ms in
    sym (join.1 none m rest) ∙ ap (λ (t : Totals). together t rest) (join.0 none m) ∙ join.1 m none rest ∙ ap (together m) (with_none join ms)

all-append : MomentsJoinInAnyOrder → (ms ns : List Totals) → all_together (ms ++ ns) ≡ together (all_together ms) (all_together ns)
all-append join [] ns = sym (with_none join ns)
all-append join (m ∷ ms) ns = ap (together m) (all-append join ms ns) ∙ sym (join.1 m (all_together ms) (all_together ns))

all-push : MomentsJoinInAnyOrder → (ms : List Totals) (m : Totals) → all_together (ms ++ m ∷ []) ≡ together (all_together ms) m
all-push join [] m = join.0 m (moment_of [])
all-push join (n ∷ ns) m = ap (together n) (all-push join ns m) ∙ sym (join.1 n (all_together ns) m)

-- how many particles, and how many numbers there are of them

no_count : (moment_of []).count ≡ 0
unfolding moment_of
no_count = refl

counted : (ms : List Totals) → (all_together ms).count ≡ particle_count ms
counted [] = no_count
counted (m ∷ ms) = ap (λ (n : ℕ). m.count + n) (counted ms) ∙ sym (sum_by-cons (λ (t : Totals). t.count) m ms)

length-sums : (xs ys : List ℤ) (n : ℕ) → length xs ≡ n → length ys ≡ n → length (pairwise_sums xs ys) ≡ n
length-sums [] ys n e f = e
length-sums (x ∷ xs) [] n e f = f
length-sums (x ∷ xs) (y ∷ ys) n e f = let rest = length-sums xs ys (length xs) refl (omega arith) in omega arith

sums_of_one_more : (m n : Totals) → HasEachSum m → HasEachSum n → HasEachSum (together m n)
sums_of_one_more m n p q = record { three = refl; eight = length-sums m.attr n.attr 8 p.eight q.eight }

sums_of_all : (ms : List Totals) → All IsTotals ms → HasEachSum (all_together ms)
sums_of_all [] limits = each_sum []
sums_of_all (m ∷ ms) limits =
    let here = All-head IsTotals m ms limits in
    sums_of_one_more m (all_together ms) (record { three = here.three; eight = here.eight }) (sums_of_all ms (All-tail IsTotals m ms limits))

-- the limits of them all
module _ (keep : MomentsKeepTheirLimits) (join : JoinedMomentsKeepTheirLimits) where
  IsTotals-all : (ms : List Totals) → particle_count ms ≤ 65536 → All IsTotals ms → IsTotals (all_together ms)
  IsTotals-all [] few limits = keep [] (omega arith) (All-nil IsParticle)
  IsTotals-all (m ∷ ms) few limits =
      let cons = sum_by-cons (λ (t : Totals). t.count) m ms in
      let count = counted ms in
      join m (all_together ms) (omega arith) (All-head IsTotals m ms limits) (IsTotals-all ms (omega arith) (All-tail IsTotals m ms limits))

  pub part_limits : (ms : List Totals) (i n : ℕ) → particle_count ms ≤ 65536 → All IsTotals ms → IsTotals (all_together (take n (drop i ms)))
  part_limits ms i n few limits =
      let part = sum_by-take-le (λ (t : Totals). t.count) (drop i ms) n in
      let rest = sum_by-take-drop (λ (t : Totals). t.count) ms i in
      IsTotals-all (take n (drop i ms)) (omega arith) (All-take IsTotals n (drop i ms) (All-drop IsTotals i ms limits))

-- the first n of the sums
abbrev pub first_sums : List Totals → ℕ → List Totals
first_sums ms n = map (λ k. all_together (take k ms)) (range_with_len 0 n)

pub sums_length : (ms : List Totals) → length (prefix_sums ms) ≡ length ms + 1
sums_length ms = length-map-range_with_len (λ k. all_together (take k ms)) 0 (length ms + 1)

pub at_sum : (ms sums : List Totals) (k : ℕ) (d : Totals) → sums ≡ prefix_sums ms → k < length sums → get_or sums k d ≡ all_together (take k ms)
at_sum ms sums k d is within =
    let long = ap length is ∙ sums_length ms in
    ap (λ (l : List Totals). get_or l k d) is ∙ get_or-map-range_with_len (λ k. all_together (take k ms)) 0 (length ms + 1) k k d (omega arith) (omega arith)

-- the sum of a range together with that before it is that through its end
pub sum_makes : MomentsJoinInAnyOrder → (ms sums : List Totals) (i n : ℕ) (through before : Totals) → sums ≡ prefix_sums ms → i + n < length sums → through ≡ get_or sums (i + n) through → before ≡ get_or sums i before →
    through ≡ together before (all_together (take n (drop i ms)))
sum_makes join ms sums i n through before is within at_end at_start =
    let before_is = at_start ∙ at_sum ms sums i before is (omega arith) in
    at_end ∙ at_sum ms sums (i + n) through is within ∙ ap all_together (take-add i n ms) ∙ all-append join (take i ms) (take n (drop i ms))
    ∙ ap (λ (t : Totals). together t (all_together (take n (drop i ms)))) (sym before_is)

-- the sums that each of them has
pub sums_of_part : (ms : List Totals) (i n : ℕ) → All IsTotals ms → HasEachSum (all_together (take n (drop i ms)))
sums_of_part ms i n limits = sums_of_all (take n (drop i ms)) (All-take IsTotals n (drop i ms) (All-drop IsTotals i ms limits))

pub sums_before : (ms sums : List Totals) (i : ℕ) (before : Totals) → All IsTotals ms → sums ≡ prefix_sums ms → i < length sums → before ≡ get_or sums i before → HasEachSum before
sums_before ms sums i before limits is within at =
    subst HasEachSum (sym (at ∙ at_sum ms sums i before is within)) (sums_of_all (take i ms) (All-take IsTotals i ms limits))

-- one moment more

pub sum_more : MomentsJoinInAnyOrder → (ms : List Totals) (i : ℕ) (m so_far : Totals) → i < length ms → m ≡ get_or ms i m → so_far ≡ all_together (take i ms) → together so_far m ≡ all_together (take (i + 1) ms)
sum_more join ms i m so_far within at is =
    ap (λ (t : Totals). together t m) is ∙ sym (all-push join (take i ms) m) ∙ ap (λ (n : Totals). all_together (take i ms ++ n ∷ [])) at ∙ ap all_together (sym (take_more ms i m within))

pub first_sums-more : (ms : List Totals) (n : ℕ) (sums : List Totals) (m : Totals) → sums ≡ first_sums ms n → m ≡ all_together (take n ms) → sums ++ m ∷ [] ≡ first_sums ms (n + 1)
first_sums-more ms n sums m are is =
    ap (λ (l : List Totals). l ++ m ∷ []) are ∙ ap (λ (t : Totals). first_sums ms n ++ t ∷ []) is ∙ sym (map-range_with_len_more (λ k. all_together (take k ms)) 0 n n (omega arith))

pub totals_more : (ms : List Totals) (i : ℕ) (m : Totals) → i < length ms → m ≡ get_or ms i m → All IsTotals (take i ms) → IsTotals m → All IsTotals (take (i + 1) ms)
totals_more ms i m within at limits here =
    All-same IsTotals (take (i + 1) ms) (take i ms ++ m ∷ []) (take_more ms i m within ∙ ap (λ (n : Totals). take i ms ++ n ∷ []) (sym at)) (All-push IsTotals (take i ms) m limits here)

pub particles_more : (ms : List Totals) (i : ℕ) (m so_far : Totals) → i < length ms → m ≡ get_or ms i m → so_far ≡ all_together (take i ms) → particle_count ms ≤ 65536 → so_far.count + m.count ≤ 65536
particles_more ms i m so_far within at is few =
    let front = ap (λ (t : Totals). t.count) is ∙ counted (take i ms) in
    let here = ap (λ (t : Totals). t.count) at in
    let part = sum_by_more_le (λ (t : Totals). t.count) ms i m within in
    omega arith

-- the moments of particles, one by one

abbrev one : Particle → Totals
one j = moment_of (j ∷ [])

all_of_particles : MomentsAddUp → (js : List Particle) → moment_of js ≡ all_together (map one js)
all_of_particles add [] = refl
all_of_particles add (j ∷ js) = add (j ∷ []) js ∙ ap (together (one j)) (all_of_particles add js)

count_of_particles : MomentsAddUp → (js : List Particle) → particle_count (map one js) ≡ length js
count_of_particles add js = sym (counted (map one js)) ∙ ap (λ (t : Totals). t.count) (sym (all_of_particles add js)) ∙ count_is js

same_sums : MomentsAddUp → (js : List Particle) → prefix_moments js ≡ prefix_sums (map one js)
same_sums add js =
    let each : (k : ℕ) → moment_of (take k js) ≡ all_together (take k (map one js)) = λ k. all_of_particles add (take k js) ∙ ap all_together (sym (take-map one k js)) in
    (λ i. map (λ k. each k i) (range_with_len 0 (length js + 1))) ∙ ap (λ (n : ℕ). map (λ k. all_together (take k (map one js))) (range_with_len 0 (n + 1))) (sym (length-map js one))

-- so the moments of the first of them are sums
pub IsPrefix-of_particles : MomentsAddUp → (js : List Particle) (sums : List Totals) → length js ≤ 65536 → All HasLimitedMoment js → sums ≡ prefix_moments js → IsPrefix sums
IsPrefix-of_particles add js sums few limits are =
    let count = count_of_particles add js in
    let long = length-map js one in (
      map one js,
      record { few = omega arith; few_particles = omega arith; limits = All-map IsTotals one js limits; summed = are ∙ same_sums add js },
    )
