-- What ranks have, and the parcels between them.
use Rattle.std.specs.Prelude.{ℕ, not, List, ◌++◌, map, filter, nat_eq}
use Rattle.std.specs.List.{range_with_len, flat_map}
use Rattle.pf_model.specs.Particle.{Particle}
use Rattle.pf_model.specs.Particles.{by_id}
pub use Rattle.pf_model.specs.Particles.{AreInIdOrder}
use Rattle.pf_model.specs.Division.{rank_count}
use Rattle.pf_model.specs.Domains.{Multisection, owner_by}

-- the state of a rank as clauses see it
pub record Holding : Type 0 where
  pub rank : ℕ
  pub bodies : List Particle

-- a parcel as clauses see it
pub record Package : Type 0 where
  pub src : ℕ
  pub dst : ℕ
  pub bodies : List Particle

-- the particles that a rank owns by the cuts
abbrev pub owned_by : Multisection → ℕ → List Particle → List Particle
owned_by s rank js = filter (λ j. nat_eq (owner_by s j.at) rank) js

-- what is left of a state when the other ranks' particles are taken out
abbrev pub left_with : Multisection → Holding → Holding
left_with s h = record { rank = h.rank; bodies = owned_by s h.rank h.bodies }

-- the parcel of a state for a rank: the particles that this rank owns
abbrev pub parcel_for : Multisection → Holding → ℕ → Package
parcel_for s h dst = record { src = h.rank; dst = dst; bodies = owned_by s dst h.bodies }

-- the parcels of a state, one for each other rank, by rank
abbrev pub parcels_from : Multisection → Holding → List Package
parcels_from s h = map (parcel_for s h) (filter (λ dst. not (nat_eq dst h.rank)) (range_with_len 0 (rank_count s.grid)))

-- particles, and those of parcels
abbrev pub joined : List Particle → List Package → List Particle
joined js parcels = js ++ flat_map (λ p. p.bodies) parcels

-- a state when parcels have come, by id
abbrev pub settled : Holding → List Package → Holding
settled h parcels = record { rank = h.rank; bodies = by_id (joined h.bodies parcels) }
