-- Gaps between intervals and between boxes.
use Rattle.std.proofs.Common.{◌≡◌, ℕ, zero, suc, ◌+◌, ◌-◌, ◌*◌, ◌^◌, ◌<◌, ◌≤◌, min, refl, arith}
use Rattle.std.proofs.Math.Nat.{mul-le-mul}
use Rattle.pf_geom.specs.declared.edge.Edge.{Edge}
use Rattle.pf_geom.specs.declared.edge.Edge.TheVariants.{Open, Periodic}
use Rattle.pf_geom.specs.Position.{Position, IsPosition}
use Rattle.pf_geom.specs.Bounds.{Bounds, IsBox, IsInBox, IsWithin, greatest_of}
use Rattle.pf_geom.specs.Octant.{Octant, IsCell, IsIn, IsInside, closed_box}
use Rattle.pf_geom.specs.Gap.{open_gap, periodic_gap, axis_gap, square, box_gap2, gap2_to}
use Rattle.pf_geom.proofs.CornerLemmas.{IsBox-closed_box, IsInBox-closed_box, IsIn-closed_box, IsWithin-closed_box}

-- intervals inside intervals are no nearer: from the outer b, c to the inner u, v
open_gap-grows : (lo_b hi_b lo_c hi_c lo_u hi_u lo_v hi_v : ℕ) → lo_b ≤ lo_u → hi_u ≤ hi_b → lo_c ≤ lo_v → hi_v ≤ hi_c → open_gap lo_b hi_b lo_c hi_c ≤ open_gap lo_u hi_u lo_v hi_v
open_gap-grows lo_b hi_b lo_c hi_c lo_u hi_u lo_v hi_v p q r s = omega arith

min_grows : (a b c d : ℕ) → a ≤ c → b ≤ d → min a b ≤ min c d
min_grows a b c d p q = omega arith

periodic_gap-grows : (lo_b hi_b lo_c hi_c lo_u hi_u lo_v hi_v : ℕ) → lo_b ≤ lo_u → hi_u ≤ hi_b → lo_c ≤ lo_v → hi_v ≤ hi_c → periodic_gap lo_b hi_b lo_c hi_c ≤ periodic_gap lo_u hi_u lo_v hi_v
periodic_gap-grows lo_b hi_b lo_c hi_c lo_u hi_u lo_v hi_v p q r s =
    let here = open_gap-grows lo_b hi_b lo_c hi_c lo_u hi_u lo_v hi_v p q r s in
    let above = open_gap-grows lo_b hi_b (lo_c + 2 ^ 30) (hi_c + 2 ^ 30) lo_u hi_u (lo_v + 2 ^ 30) (hi_v + 2 ^ 30) p q (omega arith) (omega arith) in
    let below = open_gap-grows (lo_b + 2 ^ 30) (hi_b + 2 ^ 30) lo_c hi_c (lo_u + 2 ^ 30) (hi_u + 2 ^ 30) lo_v hi_v (omega arith) (omega arith) r s in
    min_grows _ _ _ _ here (min_grows _ _ _ _ above below)

axis_gap-grows : (edge : Edge) (lo_b hi_b lo_c hi_c lo_u hi_u lo_v hi_v : ℕ) → lo_b ≤ lo_u → hi_u ≤ hi_b → lo_c ≤ lo_v → hi_v ≤ hi_c → axis_gap edge lo_b hi_b lo_c hi_c ≤ axis_gap edge lo_u hi_u lo_v hi_v
axis_gap-grows Open = open_gap-grows
axis_gap-grows Periodic = periodic_gap-grows

-- boxes inside boxes are no nearer
box_gap2-grows : (edge : Edge) (b c u v : Bounds) → IsWithin u b → IsWithin v c → box_gap2 edge b c ≤ box_gap2 edge u v
box_gap2-grows edge b c u v p q =
    let x = axis_gap-grows edge _ _ _ _ _ _ _ _ p.above_lo.x_at_most p.below_hi.x_at_most q.above_lo.x_at_most q.below_hi.x_at_most in
    let y = axis_gap-grows edge _ _ _ _ _ _ _ _ p.above_lo.y_at_most p.below_hi.y_at_most q.above_lo.y_at_most q.below_hi.y_at_most in
    let z = axis_gap-grows edge _ _ _ _ _ _ _ _ p.above_lo.z_at_most p.below_hi.z_at_most q.above_lo.z_at_most q.below_hi.z_at_most in
    omega (arith, mul-le-mul x x, mul-le-mul y y, mul-le-mul z z)

IsWithin-same : (b : Bounds) → IsWithin b b
IsWithin-same b = record {
  above_lo = record { x_at_most = omega arith; y_at_most = omega arith; z_at_most = omega arith };
  below_hi = record { x_at_most = omega arith; y_at_most = omega arith; z_at_most = omega arith };
}

pub gap2_to-grows_with_box : (edge : Edge) (inner outer : Bounds) (c : Octant) → IsWithin inner outer → gap2_to edge outer c ≤ gap2_to edge inner c
unfolding gap2_to
gap2_to-grows_with_box edge inner outer c within =
    box_gap2-grows edge outer (closed_box c) inner (closed_box c) within (IsWithin-same (closed_box c))

pub gap2_to-grows_with_cell : (edge : Edge) (b : Bounds) (inner outer : Octant) → IsCell inner → IsCell outer → IsInside inner outer → gap2_to edge b outer ≤ gap2_to edge b inner
unfolding gap2_to
gap2_to-grows_with_cell edge b inner outer inner_is outer_is inside =
    box_gap2-grows edge b (closed_box outer) b (closed_box inner) (IsWithin-same b) (IsWithin-closed_box inner outer inner_is outer_is inside)

-- a gap along an axis is less than the cube's side
axis_gap-lt : (edge : Edge) (lo_b hi_b lo_c hi_c : ℕ) → lo_b < 2 ^ 30 → lo_c < 2 ^ 30 → axis_gap edge lo_b hi_b lo_c hi_c ≤ 2 ^ 30 - 1
axis_gap-lt Open lo_b hi_b lo_c hi_c p q = omega arith
axis_gap-lt Periodic lo_b hi_b lo_c hi_c p q = omega arith

pub gap2_to-lt : (edge : Edge) (b : Bounds) (c : Octant) → IsBox b → IsCell c → gap2_to edge b c < 3 * 2 ^ 60
unfolding gap2_to
gap2_to-lt edge b c b_is c_is =
    let d = closed_box c in
    let d_is = IsBox-closed_box c c_is in
    let x = axis_gap-lt edge b.lo.x b.hi.x d.lo.x d.hi.x b_is.lo_fits.x_fits d_is.lo_fits.x_fits in
    let y = axis_gap-lt edge b.lo.y b.hi.y d.lo.y d.hi.y b_is.lo_fits.y_fits d_is.lo_fits.y_fits in
    let z = axis_gap-lt edge b.lo.z b.hi.z d.lo.z d.hi.z b_is.lo_fits.z_fits d_is.lo_fits.z_fits in
    omega (arith, mul-le-mul x x, mul-le-mul y y, mul-le-mul z z)

-- a gap along an axis is 0 exactly where the intervals meet
record Meet (lo_b hi_b lo_c hi_c : ℕ) : Type 0 where
  low : lo_c ≤ hi_b
  high : lo_b ≤ hi_c

meet_from_gap : (edge : Edge) (lo_b hi_b lo_c hi_c : ℕ) → hi_b < 2 ^ 30 → hi_c < 2 ^ 30 → axis_gap edge lo_b hi_b lo_c hi_c ≡ 0 → Meet lo_b hi_b lo_c hi_c
meet_from_gap Open lo_b hi_b lo_c hi_c p q e = record { low = omega arith; high = omega arith }
meet_from_gap Periodic lo_b hi_b lo_c hi_c p q e = record { low = omega arith; high = omega arith }

gap_from_shared : (edge : Edge) (lo_b hi_b lo_c hi_c n : ℕ) → lo_b ≤ n → n ≤ hi_b → lo_c ≤ n → n ≤ hi_c → axis_gap edge lo_b hi_b lo_c hi_c ≡ 0
gap_from_shared Open lo_b hi_b lo_c hi_c n p q r s = omega arith
gap_from_shared Periodic lo_b hi_b lo_c hi_c n p q r s = omega arith

zero_from_square : (n : ℕ) → square n ≡ 0 → n ≡ 0
zero_from_square zero e = refl
zero_from_square (suc n) e =
    let positive : 1 ≤ suc n = omega arith in
    absurd (omega (arith, mul-le-mul positive positive))

pub shared_from_gap : (edge : Edge) (b : Bounds) (c : Octant) → IsBox b → IsCell c → gap2_to edge b c ≡ 0 → (p : Position) × IsPosition p × IsInBox p b × IsIn p c
unfolding gap2_to
shared_from_gap edge b c b_is c_is e =
    let d = closed_box c in
    let d_is = IsBox-closed_box c c_is in
    let x = meet_from_gap edge b.lo.x b.hi.x d.lo.x d.hi.x b_is.hi_fits.x_fits d_is.hi_fits.x_fits (zero_from_square _ (omega arith)) in
    let y = meet_from_gap edge b.lo.y b.hi.y d.lo.y d.hi.y b_is.hi_fits.y_fits d_is.hi_fits.y_fits (zero_from_square _ (omega arith)) in
    let z = meet_from_gap edge b.lo.z b.hi.z d.lo.z d.hi.z b_is.hi_fits.z_fits d_is.hi_fits.z_fits (zero_from_square _ (omega arith)) in
    let p = greatest_of b.lo d.lo in
    let fits : IsPosition p = record { x_fits = omega arith; y_fits = omega arith; z_fits = omega arith } in
    let in_b : IsInBox p b = record {
      above_lo = record { x_at_most = omega arith; y_at_most = omega arith; z_at_most = omega arith };
      below_hi = record { x_at_most = omega arith; y_at_most = omega arith; z_at_most = omega arith };
    } in
    let in_d : IsInBox p d = record {
      above_lo = record { x_at_most = omega arith; y_at_most = omega arith; z_at_most = omega arith };
      below_hi = record { x_at_most = omega arith; y_at_most = omega arith; z_at_most = omega arith };
    } in
    (p, fits, in_b, IsIn-closed_box p c c_is in_d)

pub gap_from_shared_position : (edge : Edge) (b : Bounds) (c : Octant) (p : Position) → IsCell c → IsPosition p → IsInBox p b → IsIn p c → gap2_to edge b c ≡ 0
unfolding gap2_to
gap_from_shared_position edge b c p c_is fits in_b in_c =
    let d = closed_box c in
    let in_d = IsInBox-closed_box p c fits c_is in_c in
    let x = gap_from_shared edge b.lo.x b.hi.x d.lo.x d.hi.x p.x in_b.above_lo.x_at_most in_b.below_hi.x_at_most in_d.above_lo.x_at_most in_d.below_hi.x_at_most in
    let y = gap_from_shared edge b.lo.y b.hi.y d.lo.y d.hi.y p.y in_b.above_lo.y_at_most in_b.below_hi.y_at_most in_d.above_lo.y_at_most in_d.below_hi.y_at_most in
    let z = gap_from_shared edge b.lo.z b.hi.z d.lo.z d.hi.z p.z in_b.above_lo.z_at_most in_b.below_hi.z_at_most in_d.above_lo.z_at_most in_d.below_hi.z_at_most in
    simp (x, y, z)
