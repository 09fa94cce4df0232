-- Domains as clauses see them.
use Rattle.std.specs.Prelude.{◌≡◌, ℕ, ◌≤◌, ◌↔◌, cond, List, [], length, map, nat_eq, slice_index_or}
use Rattle.std.specs.Prelude.{Option, Some, None, IfSome, MatchOption}
use Rattle.std.specs.List.{range_with_len, list_any}
use Rattle.pf_geom.specs.Position.{Position, IsPosition}
use Rattle.pf_geom.specs.Bounds.{Bounds, IsInBox}
use Rattle.pf_model.specs.Particle.{Particle}
use Rattle.pf_model.specs.Division.{Division, rank_count}
use Rattle.pf_model.specs.Domains.{Multisection, IsMultisection, owner_by, box_by, cuts_for, particles_of, domain_box}

-- where the cube is cut, and the domain box of each rank, by number, where it owned a particle
pub record Regions : Type 0 where
  pub cuts : Multisection
  pub boxes : List (Option Bounds)

-- the box holds exactly the positions that the rank owns
abbrev pub HoldsWhatIsOwned : Multisection → ℕ → Bounds → Type 0
HoldsWhatIsOwned s rank box = (p : Position) → IsPosition p → (owner_by s p ≡ rank) ↔ IsInBox p box

-- one entry for each rank, and each box is a domain box
pub record AreRegions (d : Regions) : Type 0 where
  pub cuts : IsMultisection d.cuts
  pub counted : length d.boxes ≡ rank_count d.cuts.grid
  pub hold : (rank : ℕ) → IfSome (slice_index_or d.boxes rank None) (HoldsWhatIsOwned d.cuts rank)

-- the domain box of a rank, where it owns one of the particles
abbrev pub box_where_owned : Multisection → List Particle → ℕ → Option Bounds
box_where_owned s js rank = cond (list_any (λ j. nat_eq (owner_by s j.at) rank) js) (Some (box_by s rank)) None

-- so for each rank
abbrev pub boxes_by : Multisection → List Particle → List (Option Bounds)
boxes_by s js = map (box_where_owned s js) (range_with_len 0 (rank_count s.grid))

-- the domains that cuts make for particles
abbrev pub regions_by : Multisection → List Particle → Regions
regions_by s js = record { cuts = s; boxes = boxes_by s js }

-- the domains that particles make
abbrev pub regions_of : Division → List Particle → Regions
regions_of g js = regions_by (cuts_for g js) js

-- the target of a rank is its domain box, and none exactly where it owns no particle
abbrev pub IsTarget : Division → List Particle → ℕ → Option Bounds → Type 0
IsTarget g js rank target =
    MatchOption target (particles_of g js rank ≡ [])
    (λ box. (box ≡ domain_box g js rank) × (1 ≤ length (particles_of g js rank)))

-- so the target of each rank
abbrev pub AreTargets : Division → List Particle → Regions → Type 0
AreTargets g js d = (rank : ℕ) → IsTarget g js rank (slice_index_or d.boxes rank None)
