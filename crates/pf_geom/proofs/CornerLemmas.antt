-- Corners and closed boxes of cells, and cells inside cells.
use Rattle.std.proofs.Common.{◌≡◌, ℕ, ◌+◌, ◌-◌, ◌*◌, ◌/◌, ◌^◌, ◌<◌, ◌≤◌, refl, sym, ap, ◌∙◌, subst, inl, inr, arith}
use Rattle.std.proofs.Math.Nat.{mul_comm, div-mul-le_self, lt-mul-div-succ, div-eq_of_lt-le, mul-div_cancel, add-mul, one-mul, mul-le-mul_right, mul-le-mul_left, mul-add, mul-one}
use Rattle.std.proofs.lemmas.Nat.{pow_below}
use Rattle.std.proofs.lemmas.Bool.{cases_lt}
use Rattle.pf_geom.specs.Position.{Position, IsPosition, IsInCube, IsAtMost}
use Rattle.pf_geom.specs.Bounds.{Bounds, IsBox, IsInBox, IsWithin}
use Rattle.pf_geom.specs.Key.{morton_key, position_of_key, every_third_bit}
use Rattle.pf_geom.specs.Octant.{Octant, IsCell, side_at, HaveEqualFloors, cell_at, IsIn, IsInside, ancestor_at, corner_of, floor_to, floor_at, IsCornerOf, closed_box}
use Rattle.pf_geom.proofs.KeyBits.{interleaved, interleaved-shl, interleaved-every_third_bit, every_third_bit-lt}
use Rattle.pf_geom.proofs.KeyLemmas.{position, morton_key-is, position_of_key-morton_key, morton_key-position_of_key, IsPosition-position_of_key}
use Rattle.pf_geom.proofs.CellLemmas.{octant_eq, sides_fill, keys_fill, side_pos, eight_pos, cell_key, floor_lt, cell_from_floors, ancestor_at-cell_at}

pub IsPosition-floor_at : (p : Position) (level : ℕ) → IsPosition p → IsPosition (floor_at p level)
IsPosition-floor_at p level h = record {
  x_fits = omega (arith, div-mul-le_self p.x (side_at level));
  y_fits = omega (arith, div-mul-le_self p.y (side_at level));
  z_fits = omega (arith, div-mul-le_self p.z (side_at level));
}

-- the key of a cell, followed by zeros, is that of the floored position
pub morton_key-floor_at : (p : Position) (level : ℕ) → level ≤ 30 → morton_key (floor_at p level) ≡ (cell_at p level).key * 8 ^ (30 - level)
morton_key-floor_at p level within =
    let whole : 30 ≡ level + (30 - level) = omega arith in
    let q = floor_at p level in
    morton_key-is q ∙ ap (λ b. interleaved b q.x q.y q.z) whole ∙ interleaved-shl level (30 - level) (p.x / side_at level) (p.y / side_at level) (p.z / side_at level) ∙ ap (λ k. k * 8 ^ (30 - level)) (sym (cell_key p level within))

-- the corner of a position's cell is the position, floored
pub corner_of-cell_at : (p : Position) (level : ℕ) → IsPosition p → level ≤ 30 → corner_of (cell_at p level) ≡ floor_at p level
unfolding corner_of
corner_of-cell_at p level fits within =
    ap position_of_key (sym (morton_key-floor_at p level within)) ∙ position_of_key-morton_key (floor_at p level) (IsPosition-floor_at p level fits)

pub IsPosition-corner_of : (c : Octant) → IsPosition (corner_of c)
unfolding corner_of
IsPosition-corner_of c = IsPosition-position_of_key (c.key * 8 ^ (30 - c.level))

key_below_all : (c : Octant) → IsCell c → c.key * 8 ^ (30 - c.level) < 8 ^ 30
key_below_all c h =
    let width = 8 ^ (30 - c.level) in
    let next : (c.key + 1) * width ≤ 8 ^ c.level * width = mul-le-mul_right width (omega (arith, h.key_fits)) in
    omega (arith, next, keys_fill c.level h.level_fits, add-mul c.key 1 width, one-mul width, eight_pos (30 - c.level))

pub morton_key-corner_of : (c : Octant) → IsCell c → morton_key (corner_of c) ≡ c.key * 8 ^ (30 - c.level)
unfolding corner_of
morton_key-corner_of c h =
    morton_key-position_of_key (c.key * 8 ^ (30 - c.level)) (key_below_all c h)

pub IsIn-corner_of : (c : Octant) → IsCell c → IsIn (corner_of c) c
IsIn-corner_of c h =
    octant_eq (cell_at (corner_of c) c.level) c refl (ap (λ k. k / 8 ^ (30 - c.level)) (morton_key-corner_of c h) ∙ mul-div_cancel c.key (eight_pos (30 - c.level)))

-- a cell's corner is its own floor
pub floor_at-corner_of : (c : Octant) → IsCell c → floor_at (corner_of c) c.level ≡ corner_of c
floor_at-corner_of c h =
    sym (corner_of-cell_at (corner_of c) c.level (IsPosition-corner_of c) h.level_fits) ∙ ap corner_of (IsIn-corner_of c h)

pub IsCornerOf-corner_of : (c : Octant) → IsCell c → IsCornerOf c (corner_of c)
IsCornerOf-corner_of c h = record { in_cell = IsIn-corner_of c h; on_multiples = floor_at-corner_of c h }

-- a number lies from its floor to the floor plus side - 1
floor_below : (n s : ℕ) → floor_to s n ≤ n
floor_below n s = div-mul-le_self n s

floor_above : (n s : ℕ) → 0 < s → n ≤ floor_to s n + (s - 1)
floor_above n s positive =
    omega (arith, lt-mul-div-succ n positive, mul_comm s (n / s + 1), add-mul (n / s) 1 s, one-mul s)

-- a number from a multiple of the side to that plus side - 1 has it as its floor
floor_from_range : (n m s : ℕ) → 0 < s → floor_to s m ≡ m → m ≤ n → n ≤ m + (s - 1) → n / s ≡ m / s
floor_from_range n m s positive floored low high =
    div-eq_of_lt-le s (omega arith) (omega (arith, add-mul (m / s) 1 s, one-mul s))

-- the closed box of a cell holds exactly its positions
pub IsInBox-closed_box : (p : Position) (c : Octant) → IsPosition p → IsCell c → IsIn p c → IsInBox p (closed_box c)
unfolding closed_box
IsInBox-closed_box p c fits h inside =
    let side = side_at c.level in
    let floored : floor_at p c.level ≡ corner_of c =
    sym (corner_of-cell_at p c.level fits h.level_fits) ∙ ap corner_of inside
    in
    let x : floor_to side p.x ≡ (corner_of c).x = ap (λ (q : Position). q.x) floored in
    let y : floor_to side p.y ≡ (corner_of c).y = ap (λ (q : Position). q.y) floored in
    let z : floor_to side p.z ≡ (corner_of c).z = ap (λ (q : Position). q.z) floored in
    record {
      above_lo = record {
        x_at_most = omega (arith, x, floor_below p.x side);
        y_at_most = omega (arith, y, floor_below p.y side);
        z_at_most = omega (arith, z, floor_below p.z side);
      };
      below_hi = record {
        x_at_most = omega (arith, x, floor_above p.x side (side_pos c.level));
        y_at_most = omega (arith, y, floor_above p.y side (side_pos c.level));
        z_at_most = omega (arith, z, floor_above p.z side (side_pos c.level));
      };
    }

pub IsIn-closed_box : (p : Position) (c : Octant) → IsCell c → IsInBox p (closed_box c) → IsIn p c
unfolding closed_box
IsIn-closed_box p c h within =
    let side = side_at c.level in
    let q = corner_of c in
    let floored = floor_at-corner_of c h in
    let low = within.above_lo in
    let high = within.below_hi in
    let floors : HaveEqualFloors c.level p q = record {
      same_x = floor_from_range p.x q.x side (side_pos c.level) (ap (λ (r : Position). r.x) floored) low.x_at_most high.x_at_most;
      same_y = floor_from_range p.y q.y side (side_pos c.level) (ap (λ (r : Position). r.y) floored) low.y_at_most high.y_at_most;
      same_z = floor_from_range p.z q.z side (side_pos c.level) (ap (λ (r : Position). r.z) floored) low.z_at_most high.z_at_most;
    } in
    cell_from_floors p q c.level h.level_fits floors ∙ IsIn-corner_of c h

reach_fits : (n level : ℕ) → level ≤ 30 → n < 2 ^ 30 → floor_to (side_at level) n ≡ n → n + (side_at level - 1) < 2 ^ 30
reach_fits n level within fits floored =
    let side = side_at level in
    let next : (n / side + 1) * side ≤ 2 ^ level * side = mul-le-mul_right side (omega (arith, floor_lt n level within fits)) in
    omega (arith, next, sides_fill level within, add-mul (n / side) 1 side, one-mul side, side_pos level)

pub IsBox-closed_box : (c : Octant) → IsCell c → IsBox (closed_box c)
unfolding closed_box
IsBox-closed_box c h =
    let floored = floor_at-corner_of c h in
    let fits = IsPosition-corner_of c in
    record {
      lo_fits = fits;
      hi_fits = record {
        x_fits = reach_fits (corner_of c).x c.level h.level_fits fits.x_fits (ap (λ (q : Position). q.x) floored);
        y_fits = reach_fits (corner_of c).y c.level h.level_fits fits.y_fits (ap (λ (q : Position). q.y) floored);
        z_fits = reach_fits (corner_of c).z c.level h.level_fits fits.z_fits (ap (λ (q : Position). q.z) floored);
      };
      ordered = record { x_at_most = omega arith; y_at_most = omega arith; z_at_most = omega arith };
    }

-- the closed box of a cell inside a cell lies in that cell's
pub IsWithin-closed_box : (inner outer : Octant) → IsCell inner → IsCell outer → IsInside inner outer → IsWithin (closed_box inner) (closed_box outer)
IsWithin-closed_box inner outer inner_is outer_is inside =
    let b = closed_box inner in
    let is_box = IsBox-closed_box inner inner_is in
    let same : (q : Position) → IsAtMost q q = λ q. record { x_at_most = omega arith; y_at_most = omega arith; z_at_most = omega arith } in
    let lo : IsIn b.lo inner = IsIn-closed_box b.lo inner inner_is (record { above_lo = same b.lo; below_hi = is_box.ordered }) in
    let hi : IsIn b.hi inner = IsIn-closed_box b.hi inner inner_is (record { above_lo = is_box.ordered; below_hi = same b.hi }) in
    record {
      above_lo = (IsInBox-closed_box b.lo outer is_box.lo_fits outer_is (inside b.lo is_box.lo_fits lo)).above_lo;
      below_hi = (IsInBox-closed_box b.hi outer is_box.hi_fits outer_is (inside b.hi is_box.hi_fits hi)).below_hi;
    }

level_from_side : (l m : ℕ) → l ≤ 30 → side_at m ≤ side_at l → l ≤ m
level_from_side l m within shorter =
    elim (cases_lt m l) [ inl less ↦ absurd (omega (arith, pow_below (30 - l) (30 - m) (omega arith))) | inr more ↦ more ]

-- a cell with a cell inside it has no higher level: its box is at least as long
levels_from_boxes : (inner outer : Octant) → IsCell inner → IsCell outer → IsWithin (closed_box inner) (closed_box outer) → outer.level ≤ inner.level
unfolding closed_box
levels_from_boxes inner outer inner_is outer_is within =
    level_from_side outer.level inner.level outer_is.level_fits (omega (arith, side_pos outer.level))

pub ancestor_from_inside : (inner outer : Octant) → IsCell inner → IsCell outer → IsInside inner outer → (outer.level ≤ inner.level) × (ancestor_at inner outer.level ≡ outer)
ancestor_from_inside inner outer inner_is outer_is inside =
    let levels = levels_from_boxes inner outer inner_is outer_is (IsWithin-closed_box inner outer inner_is outer_is inside) in
    let q = corner_of inner in
    let mine = IsIn-corner_of inner inner_is in
    let above : ancestor_at inner outer.level ≡ cell_at q outer.level =
    ap (λ c. ancestor_at c outer.level) (sym mine) ∙ ancestor_at-cell_at q outer.level inner.level levels inner_is.level_fits
    in
    (levels, above ∙ inside q (IsPosition-corner_of inner) mine)

pub inside_from_ancestor : (inner outer : Octant) → IsCell inner → outer.level ≤ inner.level → ancestor_at inner outer.level ≡ outer → IsInside inner outer
inside_from_ancestor inner outer inner_is levels above p fits mine =
    sym (ancestor_at-cell_at p outer.level inner.level levels inner_is.level_fits) ∙ ap (λ c. ancestor_at c outer.level) mine ∙ above

-- a coordinate in units of the side fits the cube
pub scaled_fits : (n level : ℕ) → level ≤ 30 → n < 2 ^ level → side_at level * n < 2 ^ 30
scaled_fits n level within fits =
    let side = side_at level in
    let next : side * (n + 1) ≤ side * 2 ^ level = mul-le-mul_left side (omega arith) in
    omega (arith, next, sides_fill level within, mul_comm side (2 ^ level), mul-add side n 1, mul-one side, side_pos level)

pub read_fits : (level side n k : ℕ) → level ≤ 30 → side ≡ side_at level → n ≡ every_third_bit level k → side * n < 2 ^ 30
read_fits level side n k within side_is n_is =
    rw (side_is, n_is) (scaled_fits _ level within (every_third_bit-lt level k))

-- the coordinates that a cell's key has, in units of its side
pub record IsRead (c : Octant) (side x y z : ℕ) : Type 0 where
  pub side_is : side ≡ side_at c.level
  pub x_is : x ≡ every_third_bit c.level (c.key / 4)
  pub y_is : y ≡ every_third_bit c.level (c.key / 2)
  pub z_is : z ≡ every_third_bit c.level c.key

pub IsInCube-read : (c : Octant) (side x y z : ℕ) → IsCell c → IsRead c side x y z → IsInCube (side * x) (side * y) (side * z)
IsInCube-read c side x y z h r = record {
  x_fits = read_fits c.level side x (c.key / 4) h.level_fits r.side_is r.x_is;
  y_fits = read_fits c.level side y (c.key / 2) h.level_fits r.side_is r.y_is;
  z_fits = read_fits c.level side z c.key h.level_fits r.side_is r.z_is;
}

pub corner_of-read : (c : Octant) (side x y z : ℕ) → IsCell c → IsRead c side x y z → position (side * x) (side * y) (side * z) ≡ corner_of c
unfolding corner_of
corner_of-read c side x y z h r =
    let q = position (side * x) (side * y) (side * z) in
    let whole : 30 ≡ c.level + (30 - c.level) = omega arith in
    let turn : (n : ℕ) → side * n ≡ n * side_at c.level = λ n. mul_comm side n ∙ ap (λ s. n * s) r.side_is in
    let key : interleaved c.level x y z ≡ c.key =
    rw (r.x_is, r.y_is, r.z_is) (interleaved-every_third_bit c.level c.key h.key_fits)
    in
    let q_key : morton_key q ≡ c.key * 8 ^ (30 - c.level) =
    morton_key-is q ∙ rw (turn x, turn y, turn z) (ap (λ b. interleaved b (x * side_at c.level) (y * side_at c.level) (z * side_at c.level)) whole ∙ interleaved-shl c.level (30 - c.level) x y z ∙ ap (λ k. k * 8 ^ (30 - c.level)) key)
    in
    sym (position_of_key-morton_key q (IsInCube-read c side x y z h r)) ∙ ap position_of_key q_key

-- the closed box of a cell, from its corner and its side
abbrev pub reached : Position → ℕ → Position
reached lo side = position (lo.x + (side - 1)) (lo.y + (side - 1)) (lo.z + (side - 1))

abbrev pub bounds : Position → Position → Bounds
bounds lo hi = record { lo = lo; hi = hi }

pub closed_box-read : (c : Octant) (lo : Position) (side : ℕ) → lo ≡ corner_of c → side ≡ side_at c.level → bounds lo (reached lo side) ≡ closed_box c
unfolding closed_box
closed_box-read c lo side lo_is side_is = rw (lo_is, side_is)

pub IsPosition-reached : (c : Octant) (lo : Position) (side : ℕ) → IsCell c → lo ≡ corner_of c → side ≡ side_at c.level → IsPosition (reached lo side)
IsPosition-reached c lo side h lo_is side_is =
    subst (λ (b : Bounds). IsPosition b.hi) (sym (closed_box-read c lo side lo_is side_is)) (IsBox-closed_box c h).hi_fits
