-- Domains: the multisection of the cube among ranks.
use Rattle.std.specs.Prelude.{◌≡◌, ℕ, zero, suc, ◌+◌, ◌-◌, ◌*◌, ◌/◌, ◌%◌, ◌^◌, ◌<◌, ◌≤◌, Bool, ◌&&◌, ◌||◌, List}
use Rattle.std.specs.Prelude.{length, map, filter, take, drop, count_by, slice_index_or, All, AllPairs, IsTrue, nat_lt, nat_le}
use Rattle.std.specs.Prelude.{nat_eq}
use Rattle.std.specs.List.{range_with_len, flat_map}
use Rattle.std.specs.List.Sorted.{IsNonDecreasing}
use Rattle.pf_geom.specs.declared.axis.Axis.{Axis}
use Rattle.pf_geom.specs.declared.axis.Axis.TheVariants.{Y, Z}
use Rattle.pf_geom.specs.Position.{Position, along}
use Rattle.pf_geom.specs.Bounds.{Bounds}
use Rattle.pf_model.specs.Particle.{Particle}
use Rattle.pf_model.specs.Division.{Division, IsDivision}
use Rattle.order_laws.specs.Order.{in_order_once}

-- a multisection as clauses see it: the cuts along x, then those along y in each slab of x, and then those along
-- z in each column of each slab
pub record Multisection : Type 0 where
  pub grid : Division
  pub x : List ℕ
  pub y : List ℕ
  pub z : List ℕ

-- piece k, counted from 0, of the pieces of one length that a list is made of
abbrev pub piece_at : ℕ → List ℕ → ℕ → List ℕ
piece_at len cuts k = take len (drop (k * len) cuts)

-- the cuts along y in a slab
abbrev pub cuts_in_slab : Multisection → ℕ → List ℕ
cuts_in_slab s ix = piece_at (s.grid.ny - 1) s.y ix

-- the cuts along z in a column of the slab
abbrev pub cuts_in_column : Multisection → ℕ → ℕ → List ℕ
cuts_in_column s ix iy = piece_at (s.grid.nz - 1) s.z (ix * s.grid.ny + iy)

-- so many cuts in ascending order, of which some may be equal: each is a coordinate, or the side of the cube
pub record AreCuts (count : ℕ) (cuts : List ℕ) : Type 0 where
  pub counted : length cuts ≡ count
  pub ascending : IsNonDecreasing cuts
  pub inside : All (λ cut. cut ≤ 2 ^ 30) cuts

-- a multisection of the cube
pub record IsMultisection (s : Multisection) : Type 0 where
  pub division : IsDivision s.grid
  pub along_x : AreCuts (s.grid.nx - 1) s.x
  pub along_y : (ix : ℕ) → ix < s.grid.nx → AreCuts (s.grid.ny - 1) (cuts_in_slab s ix)
  pub along_z : (ix iy : ℕ) → ix < s.grid.nx → iy < s.grid.ny → AreCuts (s.grid.nz - 1) (cuts_in_column s ix iy)
  pub all_y : length s.y ≡ s.grid.nx * (s.grid.ny - 1)
  pub all_z : length s.z ≡ s.grid.nx * s.grid.ny * (s.grid.nz - 1)

-- the slab of a coordinate: the number of cuts that are at most it
abbrev pub slab_of : List ℕ → ℕ → ℕ
slab_of cuts n = count_by (λ cut. nat_le cut n) cuts

-- the rank that owns a position, by the cuts
unfoldable pub owner_by : Multisection → Position → ℕ
owner_by s p =
    let ix = slab_of s.x p.x in
    let iy = slab_of (cuts_in_slab s ix) p.y in
    let iz = slab_of (cuts_in_column s ix iy) p.z in
    (ix * s.grid.ny + iy) * s.grid.nz + iz

-- the lowest and the highest coordinate of a slab, where it isn't empty
abbrev pub slab_start : List ℕ → ℕ → ℕ
slab_start cuts zero = 0
slab_start cuts (suc k) = slice_index_or cuts k (2 ^ 30)

abbrev pub slab_end : List ℕ → ℕ → ℕ
slab_end cuts k = slice_index_or cuts k (2 ^ 30) - 1

-- the domain box of a rank by the cuts, where it owns a position: all positions that it owns
unfoldable pub box_by : Multisection → ℕ → Bounds
box_by s rank =
    let ix = rank / s.grid.nz / s.grid.ny in
    let iy = rank / s.grid.nz % s.grid.ny in
    let iz = rank % s.grid.nz in
    let y = cuts_in_slab s ix in
    let z = cuts_in_column s ix iy in
    record {
      lo = record { x = slab_start s.x ix; y = slab_start y iy; z = slab_start z iz };
      hi = record { x = slab_end s.x ix; y = slab_end y iy; z = slab_end z iz };
    }

-- the order of (coordinate, id) along an axis
abbrev pub comes_first : (Position → ℕ) → Particle → Particle → Bool
comes_first along p q = nat_lt (along p.at) (along q.at) || (nat_eq (along p.at) (along q.at) && nat_lt p.id q.id)

-- the coordinates of the particles, in this order
abbrev pub coordinates_of : (Position → ℕ) → List Particle → List ℕ
coordinates_of along js = map (λ j. along j.at) (in_order_once (comes_first along) js)

-- each particle comes before all later ones in this order
abbrev pub AreInOrderAlong : (Position → ℕ) → List Particle → Type 0
AreInOrderAlong along js = AllPairs (λ i j. IsTrue (comes_first along i j)) js

-- the cut before slab k of m: the coordinate at place floor(n k / m), and 2^30 where there are no particles
abbrev pub cut_before : (Position → ℕ) → List Particle → ℕ → ℕ → ℕ
cut_before along js m k = slice_index_or (coordinates_of along js) (length js * k / m) (2 ^ 30)

-- the cuts before the slabs 1 to m - 1
abbrev pub cuts_of : (Position → ℕ) → List Particle → ℕ → List ℕ
cuts_of along js m = map (cut_before along js m) (range_with_len 1 (m - 1))

-- the particles in a slab between cuts along an axis
abbrev pub in_slab_along : Axis → List ℕ → List Particle → ℕ → List Particle
in_slab_along axis cuts js slab = filter (λ j. nat_eq (slab_of cuts (along axis j.at)) slab) js

-- the cuts along z in the columns that the particles of a slab make
abbrev pub column_cuts : Division → List Particle → List ℕ
column_cuts g js =
    flat_map (λ iy. cuts_of (along Z) (in_slab_along Y (cuts_of (along Y) js g.ny) js iy) g.nz) (range_with_len 0 g.ny)

-- the cuts along x, over all particles
abbrev pub x_cuts : Division → List Particle → List ℕ
x_cuts g js = cuts_of (λ p. p.x) js g.nx

-- the particles in a slab of x
abbrev pub in_slab : Division → List Particle → ℕ → List Particle
in_slab g js ix = filter (λ j. nat_eq (slab_of (x_cuts g js) j.at.x) ix) js

-- the cuts along y, over the particles of the slab
abbrev pub y_cuts : Division → List Particle → ℕ → List ℕ
y_cuts g js ix = cuts_of (λ p. p.y) (in_slab g js ix) g.ny

-- the particles in a column of the slab
abbrev pub in_column : Division → List Particle → ℕ → ℕ → List Particle
in_column g js ix iy = filter (λ j. nat_eq (slab_of (y_cuts g js ix) j.at.y) iy) (in_slab g js ix)

-- the cuts along z, over the particles of the column
abbrev pub z_cuts : Division → List Particle → ℕ → ℕ → List ℕ
z_cuts g js ix iy = cuts_of (λ p. p.z) (in_column g js ix iy) g.nz

-- the multisection that particles make
unfoldable pub cuts_for : Division → List Particle → Multisection
cuts_for g js = record {
  grid = g;
  x = x_cuts g js;
  y = flat_map (y_cuts g js) (range_with_len 0 g.nx);
  z = flat_map (λ ix. flat_map (z_cuts g js ix) (range_with_len 0 g.ny)) (range_with_len 0 g.nx);
}

-- the rank that owns a position
unfoldable pub owner : Division → List Particle → Position → ℕ
owner g js p = owner_by (cuts_for g js) p

-- the particles that a rank owns
abbrev pub particles_of : Division → List Particle → ℕ → List Particle
particles_of g js rank = filter (λ j. nat_eq (owner g js j.at) rank) js

-- the domain box of a rank
unfoldable pub domain_box : Division → List Particle → ℕ → Bounds
domain_box g js rank = box_by (cuts_for g js) rank
