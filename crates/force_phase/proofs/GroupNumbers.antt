-- The numbers of groups over the lists of all ranks.
use Rattle.std.proofs.Common.{◌≡◌, ℕ, ◌+◌, ◌<◌, zero, suc, List, [], ◌∷◌, ◌++◌, length, get_or, take, flat_map, sym, ap, ◌∙◌, refl, arith, Some}
use Rattle.std.specs.Prelude.{slice_get}
use Rattle.std.specs.List.Sorted.{IsStrictlyIncreasing}
use Rattle.std.specs.List.{All}
use Rattle.std.proofs.lemmas.List.{length-append}
use Rattle.std.proofs.lemmas.List.Elements.{All-head, All-tail, filter_map-append}
use Rattle.group_lists.specs.Whole.{GroupList}
use Rattle.force_phase.specs.Working.{groups_at}

at_front : {X : Type 0} (xs ys : List X) (n : ℕ) → n < length xs → slice_get (xs ++ ys) n ≡ slice_get xs n
at_front [] ys n h = absurd (omega (arith, h))
at_front (x ∷ xs) ys zero h = refl
at_front (x ∷ xs) ys (suc n) h = at_front xs ys n (omega (arith, h))

behind : {X : Type 0} (xs ys : List X) (n m : ℕ) → m ≡ length xs + n → slice_get (xs ++ ys) m ≡ slice_get ys n
behind [] ys n m e = let same : m ≡ n = omega (arith, e) in ap (slice_get ys) same
behind (x ∷ xs) ys n zero e = absurd (omega (arith, e))
behind (x ∷ xs) ys n (suc m) e = behind xs ys n m (omega (arith, e))

-- the group of a number among the lists of all ranks, by its number among those of one
pub group_there : {H : Type 0} (has : H → List GroupList) (lists : List H) (k : ℕ) (h : H) (left number : ℕ) → k < length lists → h ≡ get_or lists k h → left < length (has h)
    → length (flat_map has (take k lists)) + left ≡ number → slice_get (has h) left ≡ slice_get (flat_map has lists) number
group_there has [] k h left number inside is below e = absurd (omega (arith, inside))
group_there has (l ∷ lists) zero h left number inside is below e =
    let own : has h ≡ has l = ap has is in
    let same : left ≡ number = omega (arith, e) in
    let long : length (has h) ≡ length (has l) = ap length own in
    ap (λ (g : List GroupList). slice_get g left) own
    ∙ sym (at_front (has l) (flat_map has lists) left (omega (arith, below, long)))
    ∙ ap (slice_get (has l ++ flat_map has lists)) same
group_there has (l ∷ lists) (suc k) h left number inside is below e =
    let long : length (has l ++ flat_map has (take k lists)) ≡ length (has l) + length (flat_map has (take k lists)) = length-append (has l) (flat_map has (take k lists)) in
    group_there has lists k h left (length (flat_map has (take k lists)) + left) (omega (arith, inside)) is below refl
    ∙ sym (behind (has l) (flat_map has lists) (length (flat_map has (take k lists)) + left) number (omega (arith, e, long)))

-- the groups of one number more
pub groups_more : (groups : List GroupList) (numbers : List ℕ) (n : ℕ) (g : GroupList) → slice_get groups n ≡ Some g → groups_at groups (numbers ++ n ∷ []) ≡ groups_at groups numbers ++ g ∷ []
groups_more groups numbers n g is = filter_map-append (slice_get groups) numbers (n ∷ []) ∙ ap (λ l. groups_at groups numbers ++ l) (rw is refl)

-- numbers that ascend, and a greater one
pub rises : (xs : List ℕ) (n : ℕ) → IsStrictlyIncreasing xs → All (λ x. x < n) xs → IsStrictlyIncreasing (xs ++ n ∷ [])
rises [] n up all k h = absurd (omega (arith, h))
rises (x ∷ []) n up all zero h = All-head (λ (y : ℕ). y < n) x [] all
rises (x ∷ []) n up all (suc k) h = absurd (omega (arith, h))
rises (x ∷ y ∷ xs) n up all zero h = up zero (omega arith)
rises (x ∷ y ∷ xs) n up all (suc k) h =
    let next : suc k + 1 ≡ suc (k + 1) = omega arith in
    rw next (rises (y ∷ xs) n (λ j i. let more : suc j + 1 ≡ suc (j + 1) = omega arith in rw more at (up (suc j) (omega (arith, i)))) (All-tail (λ (z : ℕ). z < n) x (y ∷ xs) all) k (omega (arith, h)))

pub none_rise : IsStrictlyIncreasing []
none_rise k h = absurd (omega (arith, h))
