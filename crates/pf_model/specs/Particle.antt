-- Particles, and the limits that every one keeps.
use Rattle.std.specs.Prelude.{◌≡◌, ℕ, ◌<◌, ◌≤◌, ◌^◌, ℤ, unsigned_abs, List, length, All}
use Rattle.pf_geom.specs.Position.{Position, IsInCube}

-- a particle as clauses see it: its place, its velocity along x, y and z, and its attributes c0 to c7
pub record Particle : Type 0 where
  pub id : ℕ
  pub at : Position
  pub vel : List ℤ
  pub mass : ℕ
  pub attr : List ℤ

-- a velocity, in 16 fraction bits, is at most 2^47 either way
abbrev pub IsVelocity : ℤ → Type 0
IsVelocity v = unsigned_abs v ≤ 2 ^ 47

-- an attribute is at most 2^40 either way
abbrev pub IsAttribute : ℤ → Type 0
IsAttribute a = unsigned_abs a ≤ 2 ^ 40

-- a mass is from 1 to 2^31 - 1
pub record IsMass (mass : ℕ) : Type 0 where
  pub positive : 1 ≤ mass
  pub fits : mass < 2 ^ 31

-- what each particle keeps beside its place
pub record HasParticleLimits (vel : List ℤ) (mass : ℕ) (attr : List ℤ) : Type 0 where
  pub slow : All IsVelocity vel
  pub heavy : IsMass mass
  pub small : All IsAttribute attr

-- a particle that keeps every limit
pub record IsParticle (p : Particle) : Type 0 where
  pub named : p.id < 2 ^ 32
  pub in_cube : IsInCube p.at.x p.at.y p.at.z
  pub three : length p.vel ≡ 3
  pub eight : length p.attr ≡ 8
  pub limits : HasParticleLimits p.vel p.mass p.attr
