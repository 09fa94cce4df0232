-- The domain box of a rank, where it has one.
use Rattle.std.specs.Prelude.{◌≡◌, ℕ, ◌/◌, ◌%◌, ◌<◌, ◌≤◌, List, [], length, Option, MatchOption}
use Rattle.pf_geom.specs.Bounds.{Bounds}
use Rattle.pf_model.specs.Particle.{Particle}
use Rattle.pf_model.specs.Division.{Division}
use Rattle.pf_model.specs.Domains.{particles_of, domain_box}

-- the domain box, and none exactly where the rank owns no particle
abbrev pub IsDomainBox : Division → List Particle → ℕ → Option Bounds → Type 0
IsDomainBox g js rank around =
    MatchOption around (particles_of g js rank ≡ [])
    (λ box. (box ≡ domain_box g js rank) × (1 ≤ length (particles_of g js rank)))

-- the places of a rank along the axes
pub record IsRankAt (g : Division) (rank ix iy iz : ℕ) : Type 0 where
  pub along_x : ix ≡ rank / g.nz / g.ny
  pub along_y : iy ≡ rank / g.nz % g.ny
  pub along_z : iz ≡ rank % g.nz
  pub in_x : ix < g.nx
  pub in_y : iy < g.ny
