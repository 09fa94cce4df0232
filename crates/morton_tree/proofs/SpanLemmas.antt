-- The particles of cells in a list that is in key order.
use Rattle.std.proofs.Common.{◌≡◌, ℕ, zero, suc, ◌+◌, ◌-◌, ◌/◌, ◌^◌, ◌<◌, ◌≤◌, Bool, true, false, cond, not, List, length, get_or, inl, inr, refl, sym, ◌∙◌, ap, arith, ltb}
use Rattle.std.specs.List.{count_by, Contains}
use Rattle.std.specs.List.Sorted.{IsPartitionedBy, IsNonDecreasingBy}
use Rattle.std.proofs.lemmas.Bool.{cases_lt, cases_order, ltb-true, ltb-false, lt-ltb, le-ltb, eqb-true, eq-eqb, ne_eqb, and_parts, and_from, and_right, not-true, not_from_false, both_ways}
use Rattle.std.proofs.Math.Nat.{div-mul-le_self, pow-suc}
use Rattle.std.proofs.lemmas.Nat.{le-div}
use Rattle.std.proofs.lemmas.List.Sorted.{IsPartitionedBy-ltb}
use Rattle.std.proofs.lemmas.List.Sums.{length-filter}
use Rattle.pf_geom.specs.Key.{morton_key}
use Rattle.pf_geom.specs.Octant.{Octant, cell_at}
use Rattle.pf_model.specs.Particle.{Particle}
use Rattle.pf_model.specs.Interaction.{is_cell}
use Rattle.pf_model.specs.Group.{particles_in}
use Rattle.morton_tree.specs.Tree.{IsInKeyOrder}
use Rattle.morton_tree.specs.Spans.{at_span, span_of}
use Rattle.morton_tree.proofs.TreeLemmas.{keys_ascend}
use Rattle.morton_tree.proofs.SplitLemmas.{IsRunAfter, run_is_filter, counts_add, some_kept}

-- the key of a particle's cell at a level
abbrev pub key_at : ℕ → Particle → ℕ
key_at level j = (cell_at j.at level).key

pub eight_pos : (n : ℕ) → 0 < 8 ^ n
eight_pos zero = omega arith
eight_pos (suc n) = omega (arith, pow-suc 8 n, eight_pos n)

-- so do the keys of their cells at a level
pub cells_ascend : (level : ℕ) (js : List Particle) → IsInKeyOrder js → IsNonDecreasingBy (key_at level) js
cells_ascend level js ordered i j d least within =
    let low = morton_key (get_or js i d).at in
    let high = morton_key (get_or js j d).at in
    let width = 8 ^ (30 - level) in
    let rise : low ≤ high = keys_ascend js ordered i j d least within in
    le-div (low / width) high width (eight_pos (30 - level)) (omega (arith, div-mul-le_self low width))

-- the particles in lower cells of the level, those in the cell, and those in neither a higher cell
abbrev pub is_below : Octant → Particle → Bool
is_below c j = ltb (key_at c.level j) c.key

abbrev pub is_member : Octant → Particle → Bool
is_member c j = is_cell c (cell_at j.at c.level)

abbrev pub is_not_above : Octant → Particle → Bool
is_not_above c j = not (ltb c.key (key_at c.level j))

pub key_of_member : (c : Octant) (j : Particle) → is_member c j ≡ true → key_at c.level j ≡ c.key
key_of_member c j e = sym (eqb-true c.key (key_at c.level j) (and_parts _ _ e).1)

pub member_from_key : (c : Octant) (j : Particle) → key_at c.level j ≡ c.key → is_member c j ≡ true
member_from_key c j e = and_from _ _ (eq-eqb c.level c.level refl) (eq-eqb c.key (key_at c.level j) (sym e))

pub not_member : (c : Octant) (j : Particle) → (key_at c.level j ≡ c.key → ⊥) → is_member c j ≡ false
not_member c j differs = and_right _ _ (ne_eqb c.key (key_at c.level j) (λ e. differs (sym e)))

pub other_key : (c : Octant) (j : Particle) → is_member c j ≡ false → key_at c.level j ≡ c.key → ⊥
other_key c j e same = both_ways (is_member c j) e (member_from_key c j same)

pub below_first : (c : Octant) (js : List Particle) → IsInKeyOrder js → IsPartitionedBy (is_below c) js
below_first c js ordered = IsPartitionedBy-ltb (key_at c.level) js c.key (cells_ascend c.level js ordered)

pub not_above_first : (c : Octant) (js : List Particle) → IsInKeyOrder js → IsPartitionedBy (is_not_above c) js
not_above_first c js ordered i j d least within e =
    let rise = cells_ascend c.level js ordered i j d least within in
    let low = ltb-false c.key (key_at c.level (get_or js j d)) (not-true _ e) in
    not_from_false _ (le-ltb c.key (key_at c.level (get_or js i d)) (omega arith))

members_run : (c : Octant) (js : List Particle) → IsInKeyOrder js → IsRunAfter (is_below c) (is_member c) js
members_run c js ordered = record {
  apart = λ j e. not_member c j (λ same. let less = ltb-true (key_at c.level j) c.key e in omega arith);
  first = below_first c js ordered;
  run = λ i j d least within e f.
      let rise = cells_ascend c.level js ordered i j d least within in
      let same = key_of_member c (get_or js j d) e in
      elim (cases_lt (key_at c.level (get_or js i d)) c.key) [
        | inl less ↦ lt-ltb _ _ less
        | inr more ↦ absurd (other_key c (get_or js i d) f (omega arith))
      ];
}

-- the particles at the span of a cell are its own
pub span_members : (c : Octant) (js : List Particle) → IsInKeyOrder js → at_span (span_of c js) js ≡ particles_in c js
span_members c js ordered = run_is_filter (is_below c) (is_member c) js (members_run c js ordered)

one_of_three : (c : Octant) (j : Particle) → cond (is_not_above c j) 1 0 ≡ cond (is_below c j) 1 0 + cond (is_member c j) 1 0
one_of_three c j =
    let n = key_at c.level j in
    elim (cases_order n c.key) [
      | inl e ↦
          rw (le-ltb c.key n (omega arith), le-ltb n c.key (omega arith), member_from_key c j e) refl
      | inr h ↦ elim h [
        | inl less ↦ rw (le-ltb c.key n (omega arith), lt-ltb n c.key less, not_member c j (λ e. omega arith)) refl
        | inr more ↦ rw (lt-ltb c.key n more, le-ltb n c.key (omega arith), not_member c j (λ e. omega arith)) refl
      ]
    ]

-- the end of the span of a cell
pub span_end : (c : Octant) (js : List Particle) → count_by (is_not_above c) js ≡ (span_of c js).first + (span_of c js).len
span_end c js =
    let sum = counts_add (is_below c) (is_member c) (is_not_above c) js (one_of_three c) in
    let members = length-filter (is_member c) js in
    omega arith

-- a cell with one of the particles has some
pub some_members : (c : Octant) (js : List Particle) (j : Particle) → Contains js j → key_at c.level j ≡ c.key → 1 ≤ length (particles_in c js)
some_members c js j there same = some_kept (is_member c) js there.0 j there.1 (ap (is_member c) there.2 ∙ member_from_key c j same)

-- a span by its two ends
pub span_from_ends : (c : Octant) (own : List Particle) (a b : ℕ) → a ≡ (span_of c own).first → b ≡ (span_of c own).first + (span_of c own).len → record { first = a; len = b - a } ≡ span_of c own
span_from_ends c own a b first end =
    let len : b - a ≡ (span_of c own).len = omega arith in
    λ i. record { first = first i; len = len i }
