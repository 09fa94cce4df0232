-- The children of cells, and their spans.
use Rattle.std.proofs.Common.{◌≡◌, ℕ, suc, ◌+◌, ◌-◌, ◌*◌, ◌/◌, ◌^◌, ◌<◌, ◌≤◌, Bool, not, List, [], ◌∷◌, length, inl, inr, sym, ◌∙◌, ap, arith, add-one, ltb}
use Rattle.std.specs.List.{count_by}
use Rattle.std.proofs.Math.Nat.{pow-suc, pow-le-pow_right, div-div-eq-div-mul, div-mul-le_self}
use Rattle.std.proofs.lemmas.Bool.{cases_lt, lt-ltb, le-ltb}
use Rattle.std.proofs.lemmas.List.Sums.{length-filter}
use Rattle.std.proofs.lemmas.List.Elements.{filter_agree}
use Rattle.pf_geom.specs.Key.{morton_key}
use Rattle.pf_geom.specs.Octant.{Octant, IsOctant}
use Rattle.pf_model.specs.Particle.{Particle}
use Rattle.morton_tree.specs.Spans.{span_of, child_of, FollowOneAnother}
use Rattle.morton_tree.specs.declared.span.Span.{Span}
use Rattle.morton_tree.proofs.SpanLemmas.{key_at, is_below, is_not_above, span_end}

-- the key of a child fits
pub child_key : (level key k : ℕ) → IsOctant level key → k < 8 → 8 * key + k < 8 ^ (level + 1)
child_key level key k h low =
    let below = h.key_fits in
    rw (add-one, pow-suc) (omega arith)

pub child_key_fits : (level key k : ℕ) → IsOctant level key → level < 30 → k < 8 → 8 * key + k < 8 ^ 30
child_key_fits level key k h shallow low =
    let positive : 0 < 8 = omega arith in
    let deep : level + 1 ≤ 30 = omega arith in
    let powers : 8 ^ (level + 1) ≤ 8 ^ 30 = pow-le-pow_right positive deep in
    let small = child_key level key k h low in
    omega arith

-- a test that gives the same answers has the same count
pub count_agree : {X : Type 0} (p q : X → Bool) (xs : List X) → ((x : X) → p x ≡ q x) → count_by p xs ≡ count_by q xs
count_agree p q xs same = sym (length-filter p xs) ∙ ap length (filter_agree p q same xs) ∙ length-filter q xs

-- the key of a cell of a particle is an eighth of that of the next level
pub parent_key : (level : ℕ) (j : Particle) → level < 30 → key_at level j ≡ key_at (level + 1) j / 8
parent_key level j shallow =
    let deeper : 30 - level ≡ suc (30 - (level + 1)) = omega arith in
    let width : 8 ^ (30 - level) ≡ 8 ^ (30 - (level + 1)) * 8 = ap (λ n. 8 ^ n) deeper ∙ pow-suc 8 (30 - (level + 1)) in
    ap (λ n. morton_key j.at / n) width ∙ sym (div-div-eq-div-mul (morton_key j.at) (8 ^ (30 - (level + 1))) 8)

pub same_tests : (a b m n : ℕ) → (a < b → m < n) → (m < n → a < b) → ltb a b ≡ ltb m n
same_tests a b m n forth back =
    elim (cases_lt a b) [
      | inl less ↦ lt-ltb a b less ∙ sym (lt-ltb m n (forth less))
      | inr more ↦ elim (cases_lt m n) [
        | inl less ↦ (let under = back less in absurd (omega arith))
        | inr rest ↦ le-ltb a b more ∙ sym (le-ltb m n rest)
      ]
    ]

pub turned_test : (a b m n : ℕ) → (b ≤ a → m < n) → (m < n → b ≤ a) → not (ltb a b) ≡ ltb m n
turned_test a b m n forth back =
    elim (cases_lt a b) [
      | inl less ↦ elim (cases_lt m n) [
        | inl under ↦ (let over = back under in absurd (omega arith))
        | inr rest ↦ ap not (lt-ltb a b less) ∙ sym (le-ltb m n rest)
      ]
      | inr more ↦ ap not (le-ltb a b more) ∙ sym (lt-ltb m n (forth more))
    ]

-- an eighth is below a number exactly where the whole is below eight times it
eighth_below : (n k : ℕ) → (n / 8 < k → n < 8 * k + 0) × (n < 8 * k + 0 → n / 8 < k)
eighth_below n k =
    let low = div-mul-le_self n 8 in
    (λ h. omega arith, λ h. omega arith)

first_child : (c : Octant) (js : List Particle) → c.level < 30 → (span_of (child_of c 0) js).first ≡ (span_of c js).first
first_child c js shallow =
    count_agree (is_below (child_of c 0)) (is_below c) js (λ j.
    let n = key_at (c.level + 1) j in
    let both = eighth_below n c.key in
    same_tests n (8 * c.key + 0) (n / 8) c.key both.1 both.0 ∙ ap (λ m. ltb m c.key) (sym (parent_key c.level j shallow)))

next_child : (c : Octant) (k : ℕ) (js : List Particle) → (span_of (child_of c k) js).first + (span_of (child_of c k) js).len ≡ (span_of (child_of c (k + 1)) js).first
next_child c k js =
    sym (span_end (child_of c k) js) ∙ count_agree (is_not_above (child_of c k)) (is_below (child_of c (k + 1))) js (λ j.
    let n = key_at (c.level + 1) j in
    turned_test (8 * c.key + k) n n (8 * c.key + (k + 1)) (λ h. omega arith) (λ h. omega arith))

last_child : (c : Octant) (js : List Particle) → c.level < 30 → (span_of (child_of c 7) js).first + (span_of (child_of c 7) js).len ≡ (span_of c js).first + (span_of c js).len
last_child c js shallow =
    sym (span_end (child_of c 7) js) ∙ count_agree (is_not_above (child_of c 7)) (is_not_above c) js (λ j.
    let n = key_at (c.level + 1) j in
    turned_test (8 * c.key + 7) n (n / 8) (c.key + 1) (λ h. omega arith) (λ h. omega arith)
    ∙ sym (turned_test c.key (n / 8) (n / 8) (c.key + 1) (λ h. omega arith) (λ h. omega arith)) ∙ ap (λ m. not (ltb c.key m)) (sym (parent_key c.level j shallow)))
    ∙ span_end c js

-- the span of child k
abbrev pub child_span : Octant → List Particle → ℕ → Span
child_span c js k = span_of (child_of c k) js

abbrev pub eight_spans : Octant → List Particle → List Span
eight_spans c js = let s = child_span c js in s 0 ∷ s 1 ∷ s 2 ∷ s 3 ∷ s 4 ∷ s 5 ∷ s 6 ∷ s 7 ∷ []

-- the spans of the children follow one another through that of the cell
pub children_follow : (c : Octant) (js : List Particle) → c.level < 30 → FollowOneAnother (span_of c js).first ((span_of c js).first + (span_of c js).len) (eight_spans c js)
children_follow c js shallow =
    let first = first_child c js shallow in
    let n0 = next_child c 0 js in
    let n1 = next_child c 1 js in
    let n2 = next_child c 2 js in
    let n3 = next_child c 3 js in
    let n4 = next_child c 4 js in
    let n5 = next_child c 5 js in
    let n6 = next_child c 6 js in
    let last = last_child c js shallow in
    (first, (omega arith, (omega arith, (omega arith, (omega arith, (omega arith, (omega arith, (omega arith, omega arith))))))))
