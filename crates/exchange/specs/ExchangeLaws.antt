-- Laws of exchange, over the states of all ranks.
use Rattle.std.specs.Prelude.{◌≡◌, ℕ, ◌↔◌, not, List, map, filter, nat_eq, Contains, IsPermutation}
use Rattle.std.specs.List.{range_with_len, flat_map}
use Rattle.pf_model.specs.Particle.{Particle}
use Rattle.pf_model.specs.Particles.{HaveDistinctIds, AreBodies, by_id}
use Rattle.pf_model.specs.Division.{rank_count}
use Rattle.pf_model.specs.Domains.{Multisection, IsMultisection, owner_by}
use Rattle.exchange.specs.States.{Holding, Package, owned_by, left_with, parcel_for, joined, settled}

-- one state for each rank, by number
abbrev pub AreOfAllRanks : Multisection → List Holding → Type 0
AreOfAllRanks s hs = map (λ h. h.rank) hs ≡ range_with_len 0 (rank_count s.grid)

-- the particles of all states
abbrev pub particles_held : List Holding → List Particle
particles_held hs = flat_map (λ h. h.bodies) hs

-- the parcels for a rank, one from each other
abbrev pub parcels_to : Multisection → List Holding → ℕ → List Package
parcels_to s hs rank = map (λ h. parcel_for s h rank) (filter (λ h. not (nat_eq h.rank rank)) hs)

-- a rank that left and settled has what it owns of all particles
pub record HasItsOwn (s : Multisection) (hs : List Holding) (h : Holding) (parcels : List Package) : Type 0 where
  pub are_bodies : AreBodies (joined (left_with s h).bodies parcels)
  pub same : IsPermutation (owned_by s h.rank (particles_held hs)) (joined (left_with s h).bodies parcels)
  pub ordered : (settled (left_with s h) parcels).bodies ≡ by_id (owned_by s h.rank (particles_held hs))

-- so it is for each rank, in whatever order the parcels for it come
abbrev pub EachRankHasItsOwn : Type 0
EachRankHasItsOwn =
    (s : Multisection) (hs : List Holding) (h : Holding) (parcels : List Package) → AreOfAllRanks s hs →
    AreBodies (particles_held hs) → Contains hs h → IsPermutation (parcels_to s hs h.rank) parcels →
    HasItsOwn s hs h parcels

-- what ranks own by id: each particle is with its owner, once, and with no other rank
abbrev pub EachParticleIsWithItsOwner : Type 0
EachParticleIsWithItsOwner =
    (s : Multisection) (js : List Particle) (rank : ℕ) → HaveDistinctIds js →
    HaveDistinctIds (by_id (owned_by s rank js)) × ((j : Particle) → Contains (by_id (owned_by s rank js)) j ↔
    (Contains js j × (owner_by s j.at ≡ rank)))

-- and all ranks together have all particles
abbrev pub RanksTogetherHaveAll : Type 0
RanksTogetherHaveAll =
    (s : Multisection) (js : List Particle) → IsMultisection s → HaveDistinctIds js →
    IsPermutation js (flat_map (λ rank. by_id (owned_by s rank js)) (range_with_len 0 (rank_count s.grid)))
