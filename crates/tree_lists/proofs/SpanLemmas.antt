-- What stands in a span, and where.
use Rattle.std.proofs.Common.{◌≡◌, ℕ, ◌+◌, ◌-◌, ◌<◌, ◌≤◌, List, length, get_or, map, drop, inl, inr, sym, ◌∙◌, ap, arith}
use Rattle.std.specs.List.{Contains}
use Rattle.std.proofs.lemmas.Bool.{cases_order}
use Rattle.std.proofs.lemmas.Bool.Decides.{Decides-eqb}
use Rattle.std.proofs.lemmas.List.{length-map, length-drop, length-take-le, get_or-map, get_or-take, get_or-drop}
use Rattle.std.proofs.lemmas.Map.Made.{AllPairs-from_IsDistinct}
use Rattle.pf_model.specs.Particle.{Particle}
use Rattle.pf_model.specs.Particles.{HaveDistinctIds}
use Rattle.morton_tree.specs.declared.span.Span.{Span}
use Rattle.morton_tree.specs.Spans.{at_span}

-- what stands in a span
pub length-span : (s : Span) (js : List Particle) → s.first + s.len ≤ length js → length (at_span s js) ≡ s.len
length-span s js inside = length-take-le s.len (drop s.first js) (let left = length-drop s.first js in omega arith)

pub read_span : (s : Span) (js : List Particle) (n : ℕ) (d : Particle) → n < s.len → get_or (at_span s js) n d ≡ get_or js (s.first + n) d
read_span s js n d less = get_or-take s.len (drop s.first js) n d less ∙ get_or-drop s.first js n d

pub in_span : (s : Span) (js : List Particle) (k : ℕ) (j : Particle) → s.first + s.len ≤ length js → s.first ≤ k → k < s.first + s.len → get_or js k j ≡ j → Contains (at_span s js) j
in_span s js k j inside least less at =
    let n = k - s.first in
    let place : s.first + n ≡ k = omega arith in
    (n, (let long = length-span s js inside in omega arith), read_span s js n j (omega arith) ∙ ap (λ (m : ℕ). get_or js m j) place ∙ at)

-- particles of distinct ids stand at one place each
pub place_of_id : (js : List Particle) → HaveDistinctIds js → (i k : ℕ) (d e : Particle) → i < length js → k < length js → (get_or js i d).id ≡ (get_or js k e).id → i ≡ k
place_of_id js distinct i k d e in_i in_k same =
    let ids : List ℕ = map (λ j. j.id) js in
    let id_i : get_or ids i 0 ≡ (get_or js i d).id = get_or-map (λ (j : Particle). j.id) js i d 0 in_i in
    let id_k : get_or ids k 0 ≡ (get_or js k e).id = get_or-map (λ (j : Particle). j.id) js k e 0 in_k in
    let ids_are : get_or ids i 0 ≡ get_or ids k 0 = id_i ∙ same ∙ sym id_k in
    elim (cases_order i k) [
      | inl e ↦ e
      | inr u ↦ elim u [
        | inl less ↦ absurd (AllPairs-from_IsDistinct Decides-eqb ids distinct i k 0 less (rw length-map in_k) ids_are)
        | inr more ↦ absurd (AllPairs-from_IsDistinct Decides-eqb ids distinct k i 0 more (rw length-map in_i) (sym ids_are))
      ]
    ]
