-- Sums over particles, and the limits that every such sum keeps.
use Rattle.std.specs.Prelude.{◌≡◌, ℕ, ◌-◌, ◌*◌, ◌^◌, ◌≤◌, ℤ, unsigned_abs, List, length, All}
use Rattle.pf_geom.specs.Position.{Position, IsPosition}
use Rattle.pf_model.specs.declared.limits.TheConstants.{MOST_PARTICLES}

-- the moment of particles as clauses see it: how many they are, and the sums of their masses, of mass
-- times coordinate along x, y and z, and of their attributes c0 to c7
pub record Totals : Type 0 where
  pub count : ℕ
  pub mass : ℕ
  pub weighted : List ℕ
  pub attr : List ℤ

-- the mass and the attributes of that many particles
pub record IsSumOf (count mass : ℕ) (attr : List ℤ) : Type 0 where
  pub few : count ≤ MOST_PARTICLES
  pub heavy : count ≤ mass
  pub light : mass ≤ count * (2 ^ 31 - 1)
  pub small : All (λ a. unsigned_abs a ≤ count * 2 ^ 40) attr

-- what each moment keeps
pub record IsMomentOf (count mass : ℕ) (weighted : List ℕ) (attr : List ℤ) : Type 0 where
  pub sums : IsSumOf count mass attr
  pub inside : All (λ w. w ≤ mass * (2 ^ 30 - 1)) weighted

-- a moment that a `Moment` can be
pub record IsTotals (m : Totals) : Type 0 where
  pub three : length m.weighted ≡ 3
  pub eight : length m.attr ≡ 8
  pub limits : IsMomentOf m.count m.mass m.weighted m.attr

-- particles seen as one: their centre of mass, and the sums that a kernel reads
pub record Source : Type 0 where
  pub at : Position
  pub mass : ℕ
  pub attr : List ℤ
  pub count : ℕ

-- what each source keeps beside its place
pub record IsSourceOf (count mass : ℕ) (attr : List ℤ) : Type 0 where
  pub some : 1 ≤ count
  pub sums : IsSumOf count mass attr

-- a source that an `Item` can be
pub record IsSource (s : Source) : Type 0 where
  pub in_cube : IsPosition s.at
  pub eight : length s.attr ≡ 8
  pub limits : IsSourceOf s.count s.mass s.attr
