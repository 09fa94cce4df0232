-- Owners by cuts, from the slabs that code counts.
use Rattle.std.proofs.Common.{◌≡◌, ℕ, ◌+◌, ◌-◌, ◌*◌, ◌<◌, ◌≤◌, Bool, List, length, drop, ◌∙◌, ap, arith}
use Rattle.std.specs.Prelude.{nat_le, nat_eq}
use Rattle.std.proofs.Math.Nat.{mul-le-mul_left}
use Rattle.std.proofs.lemmas.Nat.{mul-add-lt}
use Rattle.std.proofs.lemmas.List.{length-take}
use Rattle.std.proofs.lemmas.List.Sums.{count_by-le-length, length-filter}
use Rattle.pf_geom.specs.Position.{Position}
use Rattle.pf_geom.specs.declared.axis.Axis.{Axis}
use Rattle.pf_model.specs.Particle.{Particle}
use Rattle.pf_geom.specs.Position.{along}
use Rattle.pf_model.specs.Domains.{in_slab_along}
use Rattle.pf_model.specs.Domains.{Multisection, IsMultisection, slab_of, piece_at, owner_by}
use Rattle.model_laws.specs.DomainLaws.{OwnersByCutsAreRanks}

-- the slabs of a position: along x, along y in that slab, and along z in that column
pub record AreSlabs (s : Multisection) (p : Position) (ix iy iz ny nz : ℕ) : Type 0 where
  pub columns : ny ≡ s.grid.ny
  pub boxes : nz ≡ s.grid.nz
  pub along_x : ix ≡ slab_of s.x p.x
  pub along_y : iy ≡ slab_of (piece_at (s.grid.ny - 1) s.y ix) p.y
  pub along_z : iz ≡ slab_of (piece_at (s.grid.nz - 1) s.z (ix * ny + iy)) p.z

pub owner_from_slabs : (s : Multisection) (p : Position) (ix iy iz ny nz : ℕ) → AreSlabs s p ix iy iz ny nz → (ix * ny + iy) * nz + iz ≡ owner_by s p
unfolding owner_by
owner_from_slabs s p ix iy iz ny nz h =
    let in_slab : ℕ → ℕ = λ i. slab_of (piece_at (s.grid.ny - 1) s.y i) p.y in
    let in_column : ℕ → ℕ = λ k. slab_of (piece_at (s.grid.nz - 1) s.z k) p.z in
    let x = h.along_x in
    let y : iy ≡ in_slab (slab_of s.x p.x) = h.along_y ∙ ap in_slab x in
    let column : ix * ny + iy ≡ slab_of s.x p.x * s.grid.ny + in_slab (slab_of s.x p.x) = λ i. x i * h.columns i + y i in
    let z : iz ≡ in_column (slab_of s.x p.x * s.grid.ny + in_slab (slab_of s.x p.x)) = h.along_z ∙ ap in_column column in
    λ i. column i * h.boxes i + z i

pub owner_fits : OwnersByCutsAreRanks → (s : Multisection) (p : Position) (ix iy iz ny nz : ℕ) → IsMultisection s → AreSlabs s p ix iy iz ny nz → (ix * ny + iy) * nz + iz < 64
owner_fits law s p ix iy iz ny nz is h =
    let same = owner_from_slabs s p ix iy iz ny nz h in
    let below = law s p is in
    let few = is.division.few in
    omega arith

-- the cuts of a column are among those along z
pub column_fits : (s : Multisection) (p : Position) (ix iy ny : ℕ) → IsMultisection s → ny ≡ s.grid.ny → ix ≡ slab_of s.x p.x → iy ≡ slab_of (piece_at (s.grid.ny - 1) s.y ix) p.y
    → (ix * ny + iy) * (s.grid.nz - 1) + (s.grid.nz - 1) ≤ length s.z
column_fits s p ix iy ny is columns along_x along_y =
    let m = s.grid.nz - 1 in
    let some_x = is.division.some_x in
    let some_y = is.division.some_y in
    let x_long = is.along_x.counted in
    let x_most = count_by-le-length (λ cut. nat_le cut p.x) s.x in
    let y_most = count_by-le-length (λ cut. nat_le cut p.y) (piece_at (s.grid.ny - 1) s.y ix) in
    let y_long = length-take (s.grid.ny - 1) (drop (ix * (s.grid.ny - 1)) s.y) in
    let column : ix * s.grid.ny + iy < s.grid.nx * s.grid.ny = (let below = mul-add-lt ix s.grid.ny iy s.grid.nx (omega arith) (omega arith) in omega arith) in
    let same : ix * ny + iy ≡ ix * s.grid.ny + iy = ap (λ k. ix * k + iy) columns in
    let more : m * (ix * ny + iy + 1) ≤ m * (s.grid.nx * s.grid.ny) = mul-le-mul_left m (omega arith) in
    let z_long = is.all_z in
    omega arith

-- a slab has no more particles than there are
pub slab_short : (axis : Axis) (cuts : List ℕ) (js : List Particle) (slab : ℕ) → length (in_slab_along axis cuts js slab) ≤ length js
slab_short axis cuts js slab =
    let test : Particle → Bool = λ j. nat_eq (slab_of cuts (along axis j.at)) slab in
    let a = length-filter test js in
    let b = count_by-le-length test js in
    omega arith
