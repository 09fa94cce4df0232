-- Laws of domains: who owns what.
use Rattle.std.specs.Prelude.{◌≡◌, ℕ, ◌<◌, ◌↔◌, List, [], ◌∷◌, ◌++◌, All, Contains, IsPermutation}
use Rattle.std.specs.List.{range_with_len, flat_map}
use Rattle.std.specs.List.Sorted.{IsNonDecreasing}
use Rattle.pf_geom.specs.Position.{Position, IsPosition}
use Rattle.pf_geom.specs.Bounds.{IsBox, IsInBox}
use Rattle.pf_model.specs.Particle.{Particle}
use Rattle.pf_model.specs.Particles.{HaveDistinctIds, by_id}
use Rattle.pf_model.specs.Criterion.{Criterion}
use Rattle.pf_model.specs.Division.{Division, IsDivision, rank_count}
use Rattle.pf_model.specs.Domains.{Multisection, IsMultisection, owner_by, box_by, cuts_for, owner, particles_of}
use Rattle.pf_model.specs.Domains.{domain_box, comes_first, coordinates_of, AreInOrderAlong, cuts_of}
use Rattle.pf_model.specs.Domains.{cuts_in_slab, cuts_in_column, y_cuts, z_cuts}
use Rattle.order_laws.specs.Order.{in_order_once}
use Rattle.pf_model.specs.EssentialTree.{essential_tree, particles_of_ranks}

-- the owner of a position is one of the ranks
abbrev pub OwnersAreRanks : Type 0
OwnersAreRanks = (g : Division) (js : List Particle) (p : Position) → IsDivision g → owner g js p < rank_count g

-- so it is by the cuts of any multisection
abbrev pub OwnersByCutsAreRanks : Type 0
OwnersByCutsAreRanks = (s : Multisection) (p : Position) → IsMultisection s → owner_by s p < rank_count s.grid

-- the cuts that particles make are those of a multisection: they ascend
abbrev pub CutsAscend : Type 0
CutsAscend =
    (g : Division) (js : List Particle) → IsDivision g → All (λ j. IsPosition j.at) js → IsMultisection (cuts_for g js)

-- and piece by piece they are those of each slab along y, and of each column along z
abbrev pub CutsAreOfSlabsAndColumns : Type 0
CutsAreOfSlabsAndColumns =
    (g : Division) (js : List Particle) →
    ((ix : ℕ) → ix < g.nx → cuts_in_slab (cuts_for g js) ix ≡ y_cuts g js ix) ×
    ((ix iy : ℕ) → ix < g.nx → iy < g.ny → cuts_in_column (cuts_for g js) ix iy ≡ z_cuts g js ix iy)

-- where a rank owns a position, its domain box by the cuts is a box, and holds exactly what the rank owns
abbrev pub BoxesByCutsHoldWhatIsOwned : Type 0
BoxesByCutsHoldWhatIsOwned =
    (s : Multisection) (q : Position) → IsMultisection s → IsPosition q →
    IsBox (box_by s (owner_by s q)) × ((p : Position) → IsPosition p → (owner_by s p ≡ owner_by s q) ↔
    IsInBox p (box_by s (owner_by s q)))

-- so does the domain box
abbrev pub DomainBoxesHoldWhatIsOwned : Type 0
DomainBoxesHoldWhatIsOwned =
    (g : Division) (js : List Particle) (q : Position) → IsDivision g → All (λ j. IsPosition j.at) js → IsPosition q →
    IsBox (domain_box g js (owner g js q)) × ((p : Position) → IsPosition p → (owner g js p ≡ owner g js q) ↔
    IsInBox p (domain_box g js (owner g js q)))

-- particles have one order of (coordinate, id) along an axis, whatever the order in which they are given
abbrev pub OrdersAlongAreOne : Type 0
OrdersAlongAreOne =
    (along : Position → ℕ) (js ks : List Particle) → IsPermutation js ks → AreInOrderAlong along ks →
    in_order_once (comes_first along) js ≡ ks

-- the coordinates ascend in it
abbrev pub CoordinatesAscend : Type 0
CoordinatesAscend = (along : Position → ℕ) (js : List Particle) → IsNonDecreasing (coordinates_of along js)

-- the order of particles changes no cut along an axis
abbrev pub CutsAlongIgnoreOrder : Type 0
CutsAlongIgnoreOrder =
    (along : Position → ℕ) (js ks : List Particle) (m : ℕ) → HaveDistinctIds js → IsPermutation js ks →
    cuts_of along js m ≡ cuts_of along ks m

-- nor any cut of the cube
abbrev pub CutsIgnoreOrder : Type 0
CutsIgnoreOrder =
    (g : Division) (js ks : List Particle) → HaveDistinctIds js → IsPermutation js ks → cuts_for g js ≡ cuts_for g ks

-- so no owner and no domain box, and the particles of ranks in their order alone
abbrev pub DomainsIgnoreOrder : Type 0
DomainsIgnoreOrder =
    (g : Division) (js ks : List Particle) → HaveDistinctIds js → IsPermutation js ks →
    ((p : Position) → owner g js p ≡ owner g ks p) × ((rank : ℕ) → domain_box g js rank ≡ domain_box g ks rank)
    × ((rank : ℕ) → IsPermutation (particles_of g js rank) (particles_of g ks rank))
    × ((ranks : List ℕ) → IsPermutation (particles_of_ranks g js ranks) (particles_of_ranks g ks ranks))

-- and no essential tree
abbrev pub EssentialTreesIgnoreOrder : Type 0
EssentialTreesIgnoreOrder =
    (t : Criterion) (g : Division) (js ks : List Particle) (src dst : ℕ) → HaveDistinctIds js → IsPermutation js ks →
    essential_tree t g js src dst ≡ essential_tree t g ks src dst

-- a list of one rank has the particles of this rank
abbrev pub OneRankHasItsOwn : Type 0
OneRankHasItsOwn =
    (g : Division) (js : List Particle) (rank : ℕ) → particles_of_ranks g js (rank ∷ []) ≡ particles_of g js rank

-- a list of a rank and others has the particles of the one and of the others, up to their order
abbrev pub RanksHaveTheirOwn : Type 0
RanksHaveTheirOwn =
    (g : Division) (js : List Particle) (rank : ℕ) (ranks : List ℕ) → (Contains ranks rank → ⊥) →
    IsPermutation (particles_of_ranks g js (rank ∷ ranks)) (particles_of g js rank ++ particles_of_ranks g js ranks)

-- a list of all ranks has all particles
abbrev pub AllRanksHaveAll : Type 0
AllRanksHaveAll =
    (g : Division) (js : List Particle) (ranks : List ℕ) → IsDivision g →
    ((rank : ℕ) → rank < rank_count g → Contains ranks rank) → particles_of_ranks g js ranks ≡ js

-- the particles of the ranks in turn are all, up to their order
abbrev pub RanksInTurnHaveAll : Type 0
RanksInTurnHaveAll =
    (g : Division) (js : List Particle) → IsDivision g →
    IsPermutation js (flat_map (particles_of g js) (range_with_len 0 (rank_count g)))

-- so they are by id in each rank
abbrev pub RanksByIdHaveAll : Type 0
RanksByIdHaveAll =
    (g : Division) (js : List Particle) → IsDivision g → HaveDistinctIds js →
    IsPermutation js (flat_map (λ rank. by_id (particles_of g js rank)) (range_with_len 0 (rank_count g)))

-- where there is one rank, it owns every position, and has all particles
abbrev pub LoneRanksHaveAll : Type 0
LoneRanksHaveAll =
    (g : Division) (js : List Particle) → IsDivision g → rank_count g ≡ 1 → ((p : Position) → owner g js p ≡ 0) ×
    (particles_of g js 0 ≡ js)
