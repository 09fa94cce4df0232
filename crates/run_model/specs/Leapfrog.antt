-- The half kick and the drift of a step, and where they fail. Velocities have 16 fraction bits.
use Rattle.std.specs.Prelude.{ℕ, ◌-◌, ◌^◌, ℤ, pos, neg_ℤ, ◌+ℤ◌, ◌*ℤ◌, int_div, int_lt, unsigned_abs, nat_lt, Bool, ◌||◌, if◌then◌else◌, List, [], ◌∷◌, Option, Some, None, slice_index_or}
use Rattle.std.specs.Int.{int_rem_euclid}
use Rattle.pf_geom.specs.declared.axis.Axis.{Axis}
use Rattle.pf_geom.specs.declared.axis.Axis.TheVariants.{X, Y, Z}
use Rattle.pf_geom.specs.declared.edge.Edge.{Edge}
use Rattle.pf_geom.specs.declared.edge.Edge.TheVariants.{Open, Periodic}
use Rattle.pf_geom.specs.Position.{Position}
use Rattle.pf_model.specs.Particle.{Particle}

-- a number for each axis
pub record Triple : Type 0 where
  pub x : ℤ
  pub y : ℤ
  pub z : ℤ

-- the first axis at which the test passes, if there is one
abbrev pub first_axis : (ℤ → Bool) → Triple → Option Axis
first_axis test v = if test v.x then Some X else if test v.y then Some Y else if test v.z then Some Z else None

-- the components along x, y and z
abbrev pub along_axes : List ℤ → Triple
along_axes v = record { x = slice_index_or v 0 (pos 0); y = slice_index_or v 1 (pos 0); z = slice_index_or v 2 (pos 0) }

-- ---- the half kick

-- what a velocity component becomes: half of what the acceleration gives in a step is added, cut toward zero
abbrev pub kicked : ℕ → ℤ → ℤ → ℤ
kicked dt acceleration v = v +ℤ int_div (acceleration *ℤ pos dt) (pos 2)

-- the velocity after a half kick of this acceleration
abbrev pub kicked_velocity : ℕ → List ℤ → List ℤ → Triple
kicked_velocity dt acceleration velocity =
    let a = along_axes acceleration in
    let v = along_axes velocity in
    record { x = kicked dt a.x v.x; y = kicked dt a.y v.y; z = kicked dt a.z v.z }

-- a velocity component past 2^47
abbrev pub is_fast : ℤ → Bool
is_fast v = nat_lt (2 ^ 47) (unsigned_abs v)

-- the first axis on which a half kick makes the particle too fast
abbrev pub fast_axis : ℕ → List ℤ → Particle → Option Axis
fast_axis dt acceleration p = first_axis is_fast (kicked_velocity dt acceleration p.vel)

-- the particle after a half kick
abbrev pub after_kick : ℕ → List ℤ → Particle → Particle
after_kick dt acceleration p =
    let v = kicked_velocity dt acceleration p.vel in
    record p { vel = v.x ∷ v.y ∷ v.z ∷ [] }

-- ---- the drift

-- where a coordinate goes: what the velocity gives in a step is added, cut toward zero
abbrev pub drifted : ℕ → ℤ → ℕ → ℤ
drifted dt v coordinate = pos coordinate +ℤ int_div (v *ℤ pos dt) (pos (2 ^ 16))

-- where a drift at this velocity takes a position
abbrev pub drift_target : ℕ → List ℤ → Position → Triple
drift_target dt velocity at =
    let v = along_axes velocity in
    record { x = drifted dt v.x at.x; y = drifted dt v.y at.y; z = drifted dt v.z at.z }

-- past the cube in an open box; past the cubes next to it in a periodic one
unfoldable pub is_escape : Edge → ℤ → Bool
is_escape Open target = int_lt target (pos 0) || int_lt (pos (2 ^ 30 - 1)) target
is_escape Periodic target = int_lt target (neg_ℤ (pos (2 ^ 30))) || int_lt (pos (2 ^ 31 - 1)) target

-- the first axis on which a drift takes the particle too far
abbrev pub escape_axis : Edge → ℕ → Particle → Option Axis
escape_axis edge dt p = first_axis (is_escape edge) (drift_target dt p.vel p.at)

-- the coordinate that it comes to: in a periodic box the target modulo 2^30
unfoldable pub coordinate_at : Edge → ℤ → ℕ
coordinate_at Open target = unsigned_abs target
coordinate_at Periodic target = unsigned_abs (int_rem_euclid target (pos (2 ^ 30)))

-- the position that a drift to this target comes to
abbrev pub position_at : Edge → Triple → Position
position_at edge t = record { x = coordinate_at edge t.x; y = coordinate_at edge t.y; z = coordinate_at edge t.z }

-- the particle after a drift
abbrev pub after_drift : Edge → ℕ → Particle → Particle
after_drift edge dt p = record p { at = position_at edge (drift_target dt p.vel p.at) }
