-- The twelve columns of a particle's line, with their limits, and the particle that their numbers give.
use Rattle.std.specs.Prelude.{◌-◌, ◌^◌, ℤ, pos, neg_ℤ, ◌≤ℤ◌, unsigned_abs, ℕ, List, [], ◌∷◌, ◌++◌, slice_index_or, take, replicate}
use Rattle.pf_model.specs.Particle.{Particle}
use Rattle.particle_file.specs.declared.columns.Limits.{Limits}

abbrev pub id_limits : Limits
id_limits = record { least = pos 0; most = pos (2 ^ 32 - 1) }

abbrev pub coordinate_limits : Limits
coordinate_limits = record { least = pos 0; most = pos (2 ^ 30 - 1) }

abbrev pub velocity_limits : Limits
velocity_limits = record { least = neg_ℤ (pos (2 ^ 47)); most = pos (2 ^ 47) }

abbrev pub mass_limits : Limits
mass_limits = record { least = pos 1; most = pos (2 ^ 31 - 1) }

abbrev pub attribute_limits : Limits
attribute_limits = record { least = neg_ℤ (pos (2 ^ 40)); most = pos (2 ^ 40) }

-- id, x, y, z, vx, vy, vz, mass, c0, c1, c2 and c3
abbrev pub columns : List Limits
columns = id_limits ∷ coordinate_limits ∷ coordinate_limits ∷ coordinate_limits
    ∷ velocity_limits ∷ velocity_limits ∷ velocity_limits
    ∷ mass_limits
    ∷ attribute_limits ∷ attribute_limits ∷ attribute_limits ∷ attribute_limits ∷ []

-- each number is within the limits of its column
abbrev pub AreWithin : List Limits → List ℤ → Type 0
AreWithin [] [] = Unit {0}
AreWithin (limits ∷ more) (n ∷ ns) = (limits.least ≤ℤ n) × (n ≤ℤ limits.most) × AreWithin more ns
AreWithin [] (n ∷ ns) = ⊥
AreWithin (limits ∷ more) [] = ⊥

-- the numbers that stand in the columns of a particle's line; c4 to c7 have none
abbrev pub numbers : Particle → List ℤ
numbers p = (pos p.id ∷ pos p.at.x ∷ pos p.at.y ∷ pos p.at.z ∷ []) ++ p.vel ++ pos p.mass ∷ [] ++ take 4 p.attr

-- the number in a column, counted from 0
abbrev pub number_at : List ℤ → ℕ → ℤ
number_at ns k = slice_index_or ns k (pos 0)

-- the particle of twelve numbers in their columns
unfoldable pub particle_of : List ℤ → Particle
particle_of ns = record {
  id = unsigned_abs (number_at ns 0);
  at = record {
    x = unsigned_abs (number_at ns 1);
    y = unsigned_abs (number_at ns 2);
    z = unsigned_abs (number_at ns 3);
  };
  vel = number_at ns 4 ∷ number_at ns 5 ∷ number_at ns 6 ∷ [];
  mass = unsigned_abs (number_at ns 7);
  attr = number_at ns 8 ∷ number_at ns 9 ∷ number_at ns 10 ∷ number_at ns 11 ∷ replicate 4 (pos 0);
}
