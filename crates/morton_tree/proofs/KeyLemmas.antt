-- The ends of cells' spans, by the keys of particles in order.
use Rattle.std.proofs.Common.{◌≡◌, ℕ, suc, ◌+◌, ◌-◌, ◌*◌, ◌/◌, ◌^◌, ◌<◌, ◌≤◌, Bool, true, false, cond, List, [], ◌∷◌, length, get_or, map, take, drop, inl, inr, refl, sym, ◌∙◌, ap, subst, arith, ltb}
use Rattle.std.specs.List.{count_by}
use Rattle.std.specs.List.Sorted.{IsNonDecreasing, IsPartitionPoint}
use Rattle.std.proofs.Math.Nat.{pow-suc, pow-le-pow_right, div-lt_iff_lt-mul, mul-le-mul_right}
use Rattle.std.proofs.lemmas.Nat.{pow-add, div_below}
use Rattle.std.proofs.lemmas.Bool.{cases_lt, lt-ltb, le-ltb}
use Rattle.std.proofs.lemmas.List.{length-map, length-take-le, length-drop, get_or-map, get_or-take, get_or-drop}
use Rattle.std.proofs.lemmas.List.Sums.{sum_by-cons, count_by-le-length}
use Rattle.std.proofs.lemmas.List.Sorted.{IsPartitionedBy-ltb}
use Rattle.pf_geom.specs.Key.{morton_key}
use Rattle.pf_geom.specs.Position.{Position}
use Rattle.pf_geom.specs.Octant.{Octant, IsOctant, cell_at, ancestor_at}
use Rattle.pf_geom.specs.CellLaws.{LevelsTakeThreeBits, CellsOfAPositionNest}
use Rattle.pf_model.specs.Particle.{Particle}
use Rattle.pf_model.specs.Group.{particles_in}
use Rattle.morton_tree.specs.declared.span.Span.{Span}
use Rattle.morton_tree.specs.Tree.{Octree, IsInKeyOrder, IsOctree}
use Rattle.morton_tree.specs.Sorting.{nobody}
use Rattle.morton_tree.specs.Spans.{at_span, span_of, child_of, count_below, IsWithin}
use Rattle.morton_tree.proofs.SplitLemmas.{passes_below, fails_from, point_is_count}
use Rattle.morton_tree.proofs.TreeLemmas.{keys_ascend, same_length}
use Rattle.morton_tree.proofs.SpanLemmas.{eight_pos, is_below, is_not_above, span_members, span_end}
use Rattle.morton_tree.proofs.ChildLemmas.{count_agree, same_tests, turned_test, parent_key}

abbrev key_of : Particle → ℕ
key_of j = morton_key j.at

-- the keys of the particles
abbrev pub keys_of : List Particle → List ℕ
keys_of js = map key_of js

pub keys_non_decreasing : (js : List Particle) → IsInKeyOrder js → IsNonDecreasing (keys_of js)
keys_non_decreasing js ordered i j d least within =
    let long = length-map js key_of in
    let low : get_or (keys_of js) i d ≡ key_of (get_or js i nobody) = get_or-map key_of js i nobody d (omega arith) in
    let high : get_or (keys_of js) j d ≡ key_of (get_or js j nobody) = get_or-map key_of js j nobody d (omega arith) in
    let rise = keys_ascend js ordered i j nobody least (omega arith) in
    omega arith

-- the search in a part of the keys finds the place in all of them
pub place_is_count : (keys : List ℕ) (key from to place : ℕ) → IsNonDecreasing keys → from ≤ count_below key keys → count_below key keys ≤ to → to ≤ length keys → place ≤ length (take (to - from) (drop from keys)) →
    IsPartitionPoint (λ k. ltb k key ≡ true) (λ k. ltb k key ≡ false) (take (to - from) (drop from keys)) place → from + place ≡ count_below key keys
place_is_count keys key from to place ascending least most inside bound point =
    let below = λ (k : ℕ). ltb k key in
    let first = IsPartitionedBy-ltb (λ (k : ℕ). k) keys key ascending in
    let left = length-drop from keys in
    let long : length (take (to - from) (drop from keys)) ≡ to - from = length-take-le (to - from) (drop from keys) (omega arith) in
    let read : (k : ℕ) (d : ℕ) → from ≤ k → k < to → get_or (take (to - from) (drop from keys)) (k - from) d ≡ get_or keys k d = λ k d from_on before.
    (let at : from + (k - from) ≡ k = omega arith in get_or-take (to - from) (drop from keys) (k - from) d (omega arith) ∙ get_or-drop from keys (k - from) d ∙ ap (λ (n : ℕ). get_or keys n d) at) in
    point_is_count below keys (from + place) (omega arith) (
      λ k d none before.
          elim (cases_lt k from) [
            | inl early ↦ passes_below below keys first k d (omega arith)
            | inr late ↦ sym (ap below (read k d late (omega arith))) ∙ point.0 (k - from) d (omega arith) (omega arith)
          ],
      λ k d past within.
          elim (cases_lt k to) [
            | inl early ↦ sym (ap below (read k d (omega arith) early)) ∙ point.1 (k - from) d (omega arith) (omega arith)
            | inr late ↦ fails_from below keys first k d (omega arith) within
          ],
    )

-- counts over keys are counts over their particles
count_of_keys : (p : ℕ → Bool) (js : List Particle) → count_by p (keys_of js) ≡ count_by (λ j. p (key_of j)) js
count_of_keys p [] = refl
count_of_keys p (j ∷ js) =
    sum_by-cons (λ (k : ℕ). cond (p k) 1 0) (key_of j) (keys_of js) ∙ ap (λ (n : ℕ). cond (p (key_of j)) 1 0 + n) (count_of_keys p js)
    ∙ sym (sum_by-cons (λ (i : Particle). cond (p (key_of i)) 1 0) j js)

-- the first key of a cell, and the one past its last
abbrev pub least_key : Octant → ℕ
least_key c = c.key * 8 ^ (30 - c.level)

abbrev pub past_key : Octant → ℕ
past_key c = (c.key + 1) * 8 ^ (30 - c.level)

pub count_to_first : (c : Octant) (js : List Particle) → count_below (least_key c) (keys_of js) ≡ (span_of c js).first
count_to_first c js =
    let width = 8 ^ (30 - c.level) in
    count_of_keys (λ k. ltb k (least_key c)) js ∙ count_agree (λ j. ltb (key_of j) (least_key c)) (is_below c) js (λ j.
    let both = div-lt_iff_lt-mul {k = width} {x = key_of j} {y = c.key} (eight_pos (30 - c.level)) in
    same_tests (key_of j) (least_key c) (key_of j / width) c.key both.1 both.0)

pub count_to_end : (c : Octant) (js : List Particle) → count_below (past_key c) (keys_of js) ≡ (span_of c js).first + (span_of c js).len
count_to_end c js =
    let width = 8 ^ (30 - c.level) in
    count_of_keys (λ k. ltb k (past_key c)) js ∙ count_agree (λ j. ltb (key_of j) (past_key c)) (is_not_above c) js (λ j.
    let both = div-lt_iff_lt-mul {k = width} {x = key_of j} {y = c.key + 1} (eight_pos (30 - c.level)) in
    sym (turned_test c.key (key_of j / width) (key_of j) (past_key c) (λ h. both.0 (omega arith)) (λ h. let low = both.1 h in omega arith)))
    ∙ span_end c js

-- what the keys of particles in order say of a cell
pub record SearchedBy (c : Octant) (js : List Particle) (keys : List ℕ) (least past : ℕ) : Type 0 where
  pub ascending : IsNonDecreasing keys
  pub counted : length keys ≡ length js
  pub first : count_below least keys ≡ (span_of c js).first
  pub end : count_below past keys ≡ (span_of c js).first + (span_of c js).len

pub searched : (c : Octant) (js : List Particle) (keys : List ℕ) (least past : ℕ) → IsInKeyOrder js → keys ≡ keys_of js → least ≡ least_key c → past ≡ past_key c → SearchedBy c js keys least past
searched c js keys least past ordered are least_is past_is = record {
  ascending = subst IsNonDecreasing (sym are) (keys_non_decreasing js ordered);
  counted = ap (λ (ks : List ℕ). length ks) are ∙ length-map js key_of;
  first = (λ i. count_below (least_is i) (are i)) ∙ count_to_first c js;
  end = (λ i. count_below (past_is i) (are i)) ∙ count_to_end c js;
}

-- keys below a lesser key are no more
count_rises : (a b : ℕ) (keys : List ℕ) → a ≤ b → count_below a keys ≤ count_below b keys
count_rises a b [] least = omega arith
count_rises a b (k ∷ keys) least =
    let rest = count_rises a b keys least in
    let of_a = sum_by-cons (λ (n : ℕ). cond (ltb n a) 1 0) k keys in
    let of_b = sum_by-cons (λ (n : ℕ). cond (ltb n b) 1 0) k keys in
    let one : cond (ltb k a) 1 0 ≤ cond (ltb k b) 1 0 = elim (cases_lt k a) [
      | inl less ↦ rw (lt-ltb k a less, lt-ltb k b (omega arith)) (omega arith)
      | inr more ↦ rw (le-ltb k a more) (omega arith)
    ] in
    omega arith

lower_scaled : (a k n : ℕ) → a * 8 ≤ k → a * (n * 8) ≤ k * n
lower_scaled a k n h = let scaled : (a * 8) * n ≤ k * n = mul-le-mul_right n h in omega arith

upper_scaled : (a k n : ℕ) → k + 1 ≤ (a + 1) * 8 → (k + 1) * n ≤ (a + 1) * (n * 8)
upper_scaled a k n h = let scaled : (k + 1) * n ≤ ((a + 1) * 8) * n = mul-le-mul_right n h in omega arith

-- the span of a cell lies in that of the cell above it, and in the span of all
pub span_in_above : (c above : Octant) (js : List Particle) → above.level + 1 ≡ c.level → c.level ≤ 30 → above.key ≡ c.key / 8 → IsWithin (span_of c js) (span_of above js)
span_in_above c above js deeper deep key =
    let narrow = 8 ^ (30 - c.level) in
    let steps : 30 - above.level ≡ suc (30 - c.level) = omega arith in
    let width : 8 ^ (30 - above.level) ≡ narrow * 8 = ap (λ n. 8 ^ n) steps ∙ pow-suc 8 (30 - c.level) in
    let low : least_key above ≤ least_key c = rw width (lower_scaled above.key c.key narrow (omega arith)) in
    let high : past_key c ≤ past_key above = rw width (upper_scaled above.key c.key narrow (omega arith)) in
    let first = count_rises (least_key above) (least_key c) (keys_of js) low in
    let end = count_rises (past_key c) (past_key above) (keys_of js) high in
    let a = count_to_first above js in
    let b = count_to_first c js in
    let d = count_to_end above js in
    let e = count_to_end c js in
    record { start = omega arith; end = omega arith }

pub span_in_whole : (c : Octant) (js : List Particle) → IsWithin (span_of c js) (record { first = 0; len = length js })
span_in_whole c js = record { start = omega arith; end = (let end = span_end c js in let most = count_by-le-length (is_not_above c) js in omega arith) }

-- what holds of the span of a cell in a tree
pub span_inside : (t : Octree) (c : Octant) (s : Span) → IsOctree t → s ≡ span_of c t.built → s.first + s.len ≤ length t.bodies
span_inside t c s tree is =
    let end = (span_in_whole c t.built).end in
    let long = same_length t tree in
    let first = ap (λ (r : Span). r.first) is in
    let len = ap (λ (r : Span). r.len) is in
    omega arith

pub members_of_span : (t : Octree) (c : Octant) (s : Span) → IsOctree t → s ≡ span_of c t.built → at_span s t.built ≡ particles_in c t.built
members_of_span t c s tree is = ap (λ (r : Span). at_span r t.built) is ∙ span_members c t.built tree.ordered

-- the keys of a level are few
pub past_fits : (level key : ℕ) → IsOctant level key → key + 1 ≤ 2 ^ 90
past_fits level key h =
    let powers : 8 ^ level ≤ 8 ^ 30 = pow-le-pow_right {n = 8} (omega arith) h.level_fits in
    let small = h.key_fits in
    omega arith

pub child_in_parent : (c : Octant) (k : ℕ) (js : List Particle) → c.level < 30 → k < 8 → IsWithin (span_of (child_of c k) js) (span_of c js)
child_in_parent c k js shallow low = span_in_above (child_of c k) c js refl (omega arith) (omega arith)

-- the cells of a position from the cube down, each in the one before
pub cell_of_deepest : CellsOfAPositionNest → (p : Position) (deepest cell : Octant) (level : ℕ) → deepest ≡ cell_at p 30 → cell ≡ ancestor_at deepest level → level ≤ 30 → cell ≡ cell_at p level
cell_of_deepest nest p deepest cell level is above within = above ∙ ap (λ (o : Octant). ancestor_at o level) is ∙ nest p level 30 within (omega arith)

pub next_cell_within : (p : Position) (level : ℕ) (js : List Particle) → level < 30 → IsWithin (span_of (cell_at p (level + 1)) js) (span_of (cell_at p level) js)
next_cell_within p level js shallow =
    span_in_above (cell_at p (level + 1)) (cell_at p level) js refl (omega arith) (parent_key level (record nobody { at = p }) shallow)

-- the cell of a lower level is one
pub ancestor_fits : LevelsTakeThreeBits → (level own key : ℕ) → IsOctant own key → level ≤ own → IsOctant level (key / 2 ^ (3 * (own - level)))
ancestor_fits bits level own key h above =
    let width = 8 ^ (own - level) in
    let deep = h.level_fits in
    let fits = h.key_fits in
    let whole : level + (own - level) ≡ own = omega arith in
    let fill : 8 ^ level * width ≡ 8 ^ own = sym (pow-add 8 level (own - level)) ∙ ap (λ e. 8 ^ e) whole in
    record {
      level_fits = omega arith;
      key_fits = subst (λ (w : ℕ). key / w < 8 ^ level) (sym (bits (own - level))) (div_below key width (8 ^ level) (eight_pos (own - level)) (omega arith));
    }
