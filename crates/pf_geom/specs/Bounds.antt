-- Closed boxes.
use Rattle.std.specs.Prelude.{min, max}
use Rattle.pf_geom.specs.Position.{Position, IsPosition, IsAtMost}

-- a closed box as clauses see it: its lowest and its highest position
pub record Bounds : Type 0 where
  pub lo : Position
  pub hi : Position

-- a closed box that a `Box3` can be
pub record IsBox (b : Bounds) : Type 0 where
  pub lo_fits : IsPosition b.lo
  pub hi_fits : IsPosition b.hi
  pub ordered : IsAtMost b.lo b.hi

-- the position lies in the closed box
pub record IsInBox (p : Position) (b : Bounds) : Type 0 where
  pub above_lo : IsAtMost b.lo p
  pub below_hi : IsAtMost p b.hi

-- the one closed box lies in the other
pub record IsWithin (inner outer : Bounds) : Type 0 where
  pub above_lo : IsAtMost outer.lo inner.lo
  pub below_hi : IsAtMost inner.hi outer.hi

-- on each axis the lesser coordinate of two positions
abbrev pub least_of : Position → Position → Position
least_of p q = record { x = min p.x q.x; y = min p.y q.y; z = min p.z q.z }

-- on each axis the greater coordinate of two positions
abbrev pub greatest_of : Position → Position → Position
greatest_of p q = record { x = max p.x q.x; y = max p.y q.y; z = max p.z q.z }

-- the box round a box and a position
abbrev pub box_round : Bounds → Position → Bounds
box_round b p = record { lo = least_of b.lo p; hi = greatest_of b.hi p }

-- r is the least box round the box b and the position p
pub record IsLeastRound (b : Bounds) (p : Position) (r : Bounds) : Type 0 where
  pub box_within : IsWithin b r
  pub position_within : IsInBox p r
  pub least : (other : Bounds) → IsWithin b other → IsInBox p other → IsWithin r other
