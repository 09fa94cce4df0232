-- The least box round particles, from the front of their list.
use Rattle.std.proofs.Common.{◌≡◌, ℕ, ◌≤◌, min, max, List, [], ◌∷◌, length, refl, ◌∙◌, ap, arith}
use Rattle.std.specs.List.{All}
use Rattle.std.proofs.lemmas.List.Elements.{All-nil, All-cons, All-head, All-tail, All-weaker}
use Rattle.pf_geom.specs.Position.{Position, IsPosition, IsAtMost}
use Rattle.pf_geom.specs.Bounds.{Bounds, IsInBox, box_round}
use Rattle.pf_model.specs.Particle.{Particle}
use Rattle.pf_model.specs.Group.{box_of}
use Rattle.model_laws.specs.GroupLaws.{IsLeastRoundAll, BoxesAreLeast, BoxesIgnoreOrder}
use Rattle.order_laws.proofs.PermutationLemmas.{along_permutation}
use Rattle.pf_model.proofs.BoxLemmas.{box_of_two, round_swaps}

-- the box of particles at one place
min_same : (n : ℕ) → min n n ≡ n
min_same n = omega arith

max_same : (n : ℕ) → max n n ≡ n
max_same n = omega arith

abbrev place_box : Position → Bounds
place_box p = record { lo = p; hi = p }

round_same : (p : Position) → box_round (place_box p) p ≡ place_box p
round_same p i = record {
  lo = record { x = min_same p.x i; y = min_same p.y i; z = min_same p.z i };
  hi = record { x = max_same p.x i; y = max_same p.y i; z = max_same p.z i };
}

pub box_at_one_place : (js : List Particle) (p : Position) → 1 ≤ length js → All (λ j. j.at ≡ p) js → box_of js ≡ place_box p
box_at_one_place [] p some all = absurd (omega arith)
box_at_one_place (j ∷ []) p some all = ap place_box (All-head (λ (k : Particle). k.at ≡ p) j [] all)
box_at_one_place (j ∷ k ∷ js) p some all =
    let P : Particle → Type 0 = λ i. i.at ≡ p in
    let here : j.at ≡ p = All-head P j (k ∷ js) all in
    let rest = box_at_one_place (k ∷ js) p (omega arith) (All-tail P j (k ∷ js) all) in
    ap (λ (b : Bounds). box_round b j.at) rest ∙ ap (box_round (place_box p)) here ∙ round_same p

-- the box holds each particle, and lies in every box that does
box_round-is : (js : List Particle) (j : Particle) (b : Bounds) → IsLeastRoundAll js b → IsPosition j.at → IsLeastRoundAll (j ∷ js) (box_round b j.at)
box_round-is js j b h at =
    let b_lo = h.box.lo_fits in
    let b_hi = h.box.hi_fits in
    let in_order = h.box.ordered in
    let r = box_round b j.at in
    let holds_rest : All (λ i. IsInBox i.at r) js = All-weaker (λ (i : Particle). IsInBox i.at b) (λ (i : Particle). IsInBox i.at r)
    (λ i inside. (let lo = inside.above_lo in let hi = inside.below_hi in record {
      above_lo = record { x_at_most = omega arith; y_at_most = omega arith; z_at_most = omega arith };
      below_hi = record { x_at_most = omega arith; y_at_most = omega arith; z_at_most = omega arith };
    })) js h.holds in
    record {
      box = record {
        lo_fits = record { x_fits = omega arith; y_fits = omega arith; z_fits = omega arith };
        hi_fits = record { x_fits = omega arith; y_fits = omega arith; z_fits = omega arith };
        ordered = record { x_at_most = omega arith; y_at_most = omega arith; z_at_most = omega arith };
      };
      holds = All-cons (λ (i : Particle). IsInBox i.at r) j js
          (record {
            above_lo = record { x_at_most = omega arith; y_at_most = omega arith; z_at_most = omega arith };
            below_hi = record { x_at_most = omega arith; y_at_most = omega arith; z_at_most = omega arith };
          }) holds_rest;
      least = λ other inside.
          let here = All-head (λ (i : Particle). IsInBox i.at other) j js inside in
          let lo = here.above_lo in
          let hi = here.below_hi in
          let rest = h.least other (All-tail (λ (i : Particle). IsInBox i.at other) j js inside) in
          let rest_lo = rest.above_lo in
          let rest_hi = rest.below_hi in
          record {
            above_lo = record { x_at_most = omega arith; y_at_most = omega arith; z_at_most = omega arith };
            below_hi = record { x_at_most = omega arith; y_at_most = omega arith; z_at_most = omega arith };
          };
    }

box_of-is : (js : List Particle) → 1 ≤ length js → All (λ j. IsPosition j.at) js → IsLeastRoundAll js (box_of js)
box_of-is [] some places = absurd (omega arith)
box_of-is (j ∷ []) some places =
    let at = All-head (λ (k : Particle). IsPosition k.at) j [] places in
    let same : IsAtMost j.at j.at = record { x_at_most = omega arith; y_at_most = omega arith; z_at_most = omega arith } in
    record {
      box = record { lo_fits = at; hi_fits = at; ordered = same };
      holds = All-cons (λ (k : Particle). IsInBox k.at (place_box j.at)) j [] (record { above_lo = same; below_hi = same }) (All-nil (λ (k : Particle). IsInBox k.at (place_box j.at)));
      least = λ other inside.
          let in_other = All-head (λ (k : Particle). IsInBox k.at other) j [] inside in
          record { above_lo = in_other.above_lo; below_hi = in_other.below_hi };
    }
box_of-is (j ∷ k ∷ js) some places =
    let at = All-head (λ (i : Particle). IsPosition i.at) j (k ∷ js) places in
    let rest = box_of-is (k ∷ js) (omega arith) (All-tail (λ (i : Particle). IsPosition i.at) j (k ∷ js) places) in
    box_round-is (k ∷ js) j (box_of (k ∷ js)) rest at

pub boxes_are_least : BoxesAreLeast
boxes_are_least js some places = box_of-is js some places

-- another order of the particles
box_turned : (j k : Particle) (js : List Particle) → box_of (j ∷ k ∷ js) ≡ box_of (k ∷ j ∷ js)
box_turned j k [] = box_of_two j k
box_turned j k (i ∷ js) = round_swaps (box_of (i ∷ js)) k.at j.at

record HaveOneBox (js ks : List Particle) : Type 0 where
  pub lengths : length js ≡ length ks
  pub boxes : box_of js ≡ box_of ks

one_box_more : (j : Particle) (js ks : List Particle) → HaveOneBox js ks → HaveOneBox (j ∷ js) (j ∷ ks)
one_box_more j [] [] h = record { lengths = refl; boxes = refl }
one_box_more j [] (k ∷ ks) h = absurd (let e = h.lengths in omega arith)
one_box_more j (i ∷ js) [] h = absurd (let e = h.lengths in omega arith)
one_box_more j (i ∷ js) (k ∷ ks) h = record { lengths = (let e = h.lengths in omega arith); boxes = ap (λ (b : Bounds). box_round b j.at) h.boxes }

pub boxes_ignore_order : BoxesIgnoreOrder
boxes_ignore_order js ks h =
    (along_permutation HaveOneBox
    (λ is. record { lengths = refl; boxes = refl })
    one_box_more
    (λ i j is. record { lengths = refl; boxes = box_turned i j is })
    (λ is js ks p q. record { lengths = p.lengths ∙ q.lengths; boxes = p.boxes ∙ q.boxes })
    js ks h).boxes
