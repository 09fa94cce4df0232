-- The keys of items and bodies, and the sums over the first items.
use Rattle.std.proofs.Common.{◌≡◌, ℕ, zero, suc, ◌+◌, ◌-◌, ◌/◌, ◌^◌, ◌<◌, ◌≤◌, Bool, true, false, List, [], ◌∷◌, ◌++◌, length, get_or, map, take, drop, inl, inr, refl, sym, ◌∙◌, ap, arith, ltb, eqb}
use Rattle.std.specs.List.{range_with_len}
use Rattle.std.specs.List.Sorted.{IsNonDecreasingBy}
use Rattle.std.proofs.lemmas.List.{take_more, take-append-drop}
use Rattle.std.proofs.lemmas.List.FromFn.{map-range_with_len_more, length-map-range_with_len, get_or-map-range_with_len}
use Rattle.std.proofs.Math.Seq.{take-add}
use Rattle.std.proofs.Math.Nat.{pow-suc, div-mul-le_self}
use Rattle.std.proofs.lemmas.Nat.{le-div}
use Rattle.std.proofs.lemmas.Bool.{cases_lt, ltb-true, ltb-false, eqb-true, eqb-false, eq-eqb, ne_eqb, or_cases, and_parts, and_from, and_right}
use Rattle.pf_geom.specs.Octant.{Octant}
use Rattle.pf_geom.specs.Key.{morton_key}
use Rattle.pf_model.specs.declared.entry.Entry.{Entry}
use Rattle.pf_model.specs.Particle.{Particle}
use Rattle.pf_model.specs.Totals.{Totals, IsTotals}
use Rattle.pf_model.specs.Sums.{moment_of, together, IsRest}
use Rattle.pf_model.specs.Interaction.{is_cell}
use Rattle.model_laws.specs.MomentLaws.{MomentsJoinInAnyOrder, EntriesJoinTheirMoments}
use Rattle.pf_model.specs.Sufficiency.{entry_moment, moment_together}
use Rattle.morton_tree.specs.Tree.{IsInKeyOrder}
use Rattle.group_lists.proofs.SearchLemmas.{StandFirst}

pub eight_pos : (n : ℕ) → 0 < 8 ^ n
eight_pos zero = omega arith
eight_pos (suc n) = omega (arith, pow-suc 8 n, eight_pos n)

-- what stands in the order of some keys stands in the order of their cells at a level
pub cells_ascend : {X : Type 0} (key : X → ℕ) (level : ℕ) (xs : List X) → IsNonDecreasingBy key xs → IsNonDecreasingBy (λ x. key x / 8 ^ (30 - level)) xs
cells_ascend key level xs up i j d least within =
    let low = key (get_or xs i d) in
    let high = key (get_or xs j d) in
    let width = 8 ^ (30 - level) in
    let rise : low ≤ high = up i j d least within in
    le-div (low / width) high width (eight_pos (30 - level)) (omega (arith, div-mul-le_self low width))

-- whether the cell of something with this key is the cell
abbrev pub is_cell_of : {X : Type 0} → (X → ℕ) → Octant → X → Bool
is_cell_of key c x = is_cell c (record { level = c.level; key = key x / 8 ^ (30 - c.level) })

abbrev pub is_lower : {X : Type 0} → (X → ℕ) → Octant → X → Bool
is_lower key c x = ltb (key x / 8 ^ (30 - c.level)) c.key

pub cell_stands_first : {X : Type 0} (key : X → ℕ) (c : Octant) (xs : List X) → IsNonDecreasingBy key xs → StandFirst (is_lower key c) (is_cell_of key c) xs
cell_stands_first key c xs up = record {
  apart = λ x e less.
      let same = eqb-true c.key (key x / 8 ^ (30 - c.level)) (and_parts _ _ e).1 in
      let below = ltb-true (key x / 8 ^ (30 - c.level)) c.key less in
      omega arith;
  first = λ j k d least within later e.
      let same = eqb-true c.key (key (get_or xs k d) / 8 ^ (30 - c.level)) (and_parts _ _ e).1 in
      let above = ltb-false (key (get_or xs j d) / 8 ^ (30 - c.level)) c.key later in
      let rise = cells_ascend key c.level xs up j k d least within in
      and_from _ _ (eq-eqb c.level c.level refl) (eq-eqb c.key (key (get_or xs j d) / 8 ^ (30 - c.level)) (omega arith));
}

-- particles in key order
abbrev pub place_key : Particle → ℕ
place_key j = morton_key j.at

pub keys_rise : (js : List Particle) → IsInKeyOrder js → IsNonDecreasingBy place_key js
keys_rise js order i j d least within =
    elim (cases_lt i j) [
      | inl less ↦ elim (or_cases _ _ (order i j d less within)) [
        | inl h ↦ (let rise = ltb-true (place_key (get_or js i d)) (place_key (get_or js j d)) h in omega arith)
        | inr h ↦ (let same = eqb-true (place_key (get_or js i d)) (place_key (get_or js j d)) (and_parts _ _ h).0 in omega arith)
      ]
      | inr more ↦ (let same : i ≡ j = omega arith in let key = ap (λ (k : ℕ). place_key (get_or js k d)) same in omega arith)
    ]

-- the cell of something at a level, by its key alone
pub is_cell_by_key : (c : Octant) (key : ℕ) (b : Bool) → b ≡ eqb key c.key → is_cell c (record { level = c.level; key = key }) ≡ b
is_cell_by_key c key true e = and_from _ _ (eq-eqb c.level c.level refl) (eq-eqb c.key key (sym (eqb-true key c.key (sym e))))
is_cell_by_key c key false e = and_right _ _ (ne_eqb c.key key (λ same. eqb-false key c.key (sym e) (sym same)))

-- one item more
together_push : MomentsJoinInAnyOrder → (es : List Entry) (e : Entry) → moment_together (es ++ e ∷ []) ≡ together (moment_together es) (entry_moment e)
together_push join [] e = join.0 (entry_moment e) (moment_of [])
together_push join (f ∷ fs) e = ap (together (entry_moment f)) (together_push join fs e) ∙ sym (join.1 (entry_moment f) (moment_together fs) (entry_moment e))

-- the sum over the first items and one more
pub together_more : MomentsJoinInAnyOrder → (es : List Entry) (i : ℕ) (e : Entry) (m n : Totals) → i < length es → e ≡ get_or es i e → m ≡ moment_together (take i es) → n ≡ entry_moment e → together m n ≡ moment_together (take (i + 1) es)
together_more join es i e m n within at so_far one =
    (λ k. together (so_far k) (one k)) ∙ sym (together_push join (take i es) e) ∙ ap (λ (f : Entry). moment_together (take i es ++ f ∷ [])) at ∙ ap moment_together (sym (take_more es i e within))

count_none : (moment_of []).count ≡ 0
unfolding moment_of
count_none = refl

-- how many there are of all is no less
pub count_more : MomentsJoinInAnyOrder → EntriesJoinTheirMoments → (es : List Entry) (i : ℕ) (e : Entry) (m n : Totals) → i < length es → e ≡ get_or es i e → m ≡ moment_together (take i es) → n ≡ entry_moment e → (moment_together es).count ≤ 65536 → m.count + n.count ≤ 65536
count_more join entries es i e m n within at so_far one few =
    let front = ap (λ (x : Totals). x.count) (together_more join es i e m n within at so_far one) in
    let all = ap (λ (x : Totals). x.count) (ap moment_together (sym (take-append-drop (i + 1) es)) ∙ entries (take (i + 1) es) (drop (i + 1) es)) in
    omega arith

-- the sums over the first items, with one more
abbrev pub first_sums : List Entry → ℕ → List Totals
first_sums items n = map (λ k. moment_together (take k items)) (range_with_len 0 n)

pub sums_more : (items : List Entry) (n : ℕ) (ms : List Totals) (m : Totals) → ms ≡ first_sums items n → m ≡ moment_together (take n items) → ms ++ m ∷ [] ≡ first_sums items (n + 1)
sums_more items n ms m ms_are m_is =
    ap (λ (l : List Totals). l ++ m ∷ []) ms_are ∙ ap (λ (t : Totals). first_sums items n ++ t ∷ []) m_is ∙ sym (map-range_with_len_more (λ k. moment_together (take k items)) 0 n n (omega arith))

pub sums_long : (items : List Entry) (sums : List Totals) → sums ≡ first_sums items (length items + 1) → length sums ≡ length items + 1
sums_long items sums is = ap (λ (ms : List Totals). length ms) is ∙ length-map-range_with_len (λ k. moment_together (take k items)) 0 (length items + 1)

pub sum_at : (items : List Entry) (sums : List Totals) (k : ℕ) (m : Totals) → sums ≡ first_sums items (length items + 1) → k ≤ length items → m ≡ get_or sums k m → m ≡ moment_together (take k items)
sum_at items sums k m is within at =
    at ∙ ap (λ (ms : List Totals). get_or ms k m) is ∙ get_or-map-range_with_len (λ n. moment_together (take n items)) 0 (length items + 1) k k m (omega arith) (omega arith)

-- the sum over the items through a place is that before another and that between
pub sum_between : EntriesJoinTheirMoments → (items : List Entry) (sums : List Totals) (first len : ℕ) (through before : Totals) → sums ≡ first_sums items (length items + 1) → first + len ≤ length items → through ≡ get_or sums (first + len) through → before ≡ get_or sums first before →
    IsTotals (moment_together (take len (drop first items))) → IsRest through before (moment_together (take len (drop first items)))
sum_between entries items sums first len through before is within at_through at_before limits = record {
  limits = limits;
  makes =
      sum_at items sums (first + len) through is within at_through ∙ ap moment_together (take-add first len items)
      ∙ entries (take first items) (take len (drop first items))
      ∙ ap (λ (m : Totals). together m (moment_together (take len (drop first items)))) (sym (sum_at items sums first before is (omega arith) at_before));
}
