-- The least box, one particle more.
use Rattle.std.proofs.Common.{◌≡◌, ℕ, zero, suc, ◌+◌, ◌<◌, ◌≤◌, min, max, List, [], ◌∷◌, ◌++◌, length, get_or, take, sym, ◌∙◌, ap, arith}
use Rattle.std.proofs.lemmas.List.{take_more}
use Rattle.pf_geom.specs.Position.{Position}
use Rattle.pf_geom.specs.Bounds.{Bounds, box_round}
use Rattle.pf_model.specs.Particle.{Particle}
use Rattle.pf_model.specs.Group.{box_of}

least_swaps : (a b c : ℕ) → min (min a b) c ≡ min (min a c) b
least_swaps a b c = omega arith

greatest_swaps : (a b c : ℕ) → max (max a b) c ≡ max (max a c) b
greatest_swaps a b c = omega arith

pub round_swaps : (b : Bounds) (p q : Position) → box_round (box_round b p) q ≡ box_round (box_round b q) p
round_swaps b p q i = record {
  lo = record { x = least_swaps b.lo.x p.x q.x i; y = least_swaps b.lo.y p.y q.y i; z = least_swaps b.lo.z p.z q.z i };
  hi = record { x = greatest_swaps b.hi.x p.x q.x i; y = greatest_swaps b.hi.y p.y q.y i; z = greatest_swaps b.hi.z p.z q.z i };
}

least_turns : (a b : ℕ) → min a b ≡ min b a
least_turns a b = omega arith

greatest_turns : (a b : ℕ) → max a b ≡ max b a
greatest_turns a b = omega arith

pub box_of_two : (j k : Particle) → box_round (record { lo = k.at; hi = k.at }) j.at ≡ box_round (record { lo = j.at; hi = j.at }) k.at
box_of_two j k i = record {
  lo = record { x = least_turns k.at.x j.at.x i; y = least_turns k.at.y j.at.y i; z = least_turns k.at.z j.at.z i };
  hi = record { x = greatest_turns k.at.x j.at.x i; y = greatest_turns k.at.y j.at.y i; z = greatest_turns k.at.z j.at.z i };
}

-- one particle more at the back
box_of-push : (j : Particle) (js : List Particle) (k : Particle) → box_of ((j ∷ js) ++ k ∷ []) ≡ box_round (box_of (j ∷ js)) k.at
box_of-push j [] k = box_of_two j k
box_of-push j (i ∷ js) k = ap (λ (b : Bounds). box_round b j.at) (box_of-push i js k) ∙ round_swaps (box_of (i ∷ js)) k.at j.at

-- and from the front of a list
pub box_more : (js : List Particle) (n : ℕ) (k : Particle) (b : Bounds) → 1 ≤ n → n < length js → k ≡ get_or js n k → b ≡ box_of (take n js) → box_round b k.at ≡ box_of (take (n + 1) js)
box_more [] n k b some within at_place is = absurd (omega arith)
box_more (j ∷ js) zero k b some within at_place is = absurd (omega arith)
box_more (j ∷ js) (suc n) k b some within at_place is =
    let more : take (suc n + 1) (j ∷ js) ≡ (j ∷ take n js) ++ k ∷ [] =
    take_more (j ∷ js) (suc n) k within ∙ ap (λ (i : Particle). (j ∷ take n js) ++ i ∷ []) (sym at_place) in
    ap (λ (c : Bounds). box_round c k.at) is ∙ sym (box_of-push j (take n js) k) ∙ ap box_of (sym more)
