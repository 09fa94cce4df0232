-- The particles of some ranks: of one alone, and of all.
use Rattle.std.proofs.Common.{◌≡◌, ℕ, ◌+◌, ◌-◌, ◌*◌, ◌<◌, ◌≤◌, Bool, true, false, ◌||◌, List, [], ◌∷◌, length, drop, nat_eq, refl, sym, ◌∙◌, ap, arith}
use Rattle.std.specs.Prelude.{nat_le}
use Rattle.std.specs.List.{filter, flat_map, range_with_len, list_any, Contains}
use Rattle.std.proofs.lemmas.List.Sorted.{IsPermutation-refl, IsPermutation-trans}
use Rattle.std.proofs.lemmas.Bool.{cond-true}
use Rattle.std.proofs.lemmas.Nat.{mul-add-lt}
use Rattle.std.proofs.lemmas.Cmp.{nat_eq_equiv}
use Rattle.std.proofs.lemmas.List.{length-take}
use Rattle.std.proofs.lemmas.List.Elements.{filter_agree}
use Rattle.std.proofs.lemmas.List.FromFn.{length-map-range_with_len}
use Rattle.std.proofs.lemmas.List.Sums.{count_by-le-length}
use Rattle.std.proofs.lemmas.Map.Views.{list_any-from_Contains}
use Rattle.pf_geom.specs.Position.{Position}
use Rattle.order_laws.specs.OrderLaws.{PartsByKeyAreAll, PartsKeepPermutations}
use Rattle.pf_model.specs.Particle.{Particle}
use Rattle.pf_model.specs.Division.{Division, IsDivision, rank_count}
use Rattle.pf_model.specs.Domains.{Multisection, piece_at, cuts_in_slab, cuts_in_column, cut_before, cuts_of, slab_of, owner_by, cuts_for, owner, particles_of}
use Rattle.pf_model.specs.Particles.{by_id}
use Rattle.model_laws.specs.DomainLaws.{OwnersAreRanks, OwnersByCutsAreRanks, OneRankHasItsOwn, AllRanksHaveAll, LoneRanksHaveAll, RanksInTurnHaveAll, RanksByIdHaveAll}
use Rattle.model_laws.specs.IdLaws.{OrdersByIdHaveAll}
use Rattle.model_laws.proofs.ReuseLemmas.{some_have_distinct_ids}

pub length-cuts_of : (along : Position → ℕ) (js : List Particle) (m : ℕ) → length (cuts_of along js m) ≡ m - 1
length-cuts_of along js m = length-map-range_with_len (cut_before along js m) 1 (m - 1)

-- with a cut before each slab but the first, a coordinate is in one of them
pub slab_below : (cuts : List ℕ) (m n : ℕ) → 1 ≤ m → length cuts ≤ m - 1 → slab_of cuts n < m
slab_below cuts m n some long = let most = count_by-le-length (λ cut. nat_le cut n) cuts in omega arith

piece_at-short : (len : ℕ) (cuts : List ℕ) (k : ℕ) → length (piece_at len cuts k) ≤ len
piece_at-short len cuts k = let short = length-take len (drop (k * len) cuts) in omega arith

box_below : (ix iy iz nx ny nz : ℕ) → ix < nx → iy < ny → iz < nz → (ix * ny + iy) * nz + iz < nx * ny * nz
box_below ix iy iz nx ny nz in_x in_y in_z =
    let column : ix * ny + iy < nx * ny = (let below = mul-add-lt ix ny iy nx in_x in_y in omega arith) in
    let below = mul-add-lt (ix * ny + iy) nz iz (nx * ny) column in_z in
    omega arith

-- the owner of a position is one of the ranks
owner_by-below : (s : Multisection) (p : Position) → IsDivision s.grid → length s.x ≤ s.grid.nx - 1 → owner_by s p < rank_count s.grid
unfolding owner_by
owner_by-below s p h along_x =
    let ix = slab_of s.x p.x in
    let iy = slab_of (cuts_in_slab s ix) p.y in
    let iz = slab_of (cuts_in_column s ix iy) p.z in
    box_below ix iy iz s.grid.nx s.grid.ny s.grid.nz
    (slab_below s.x s.grid.nx p.x h.some_x along_x)
    (slab_below (cuts_in_slab s ix) s.grid.ny p.y h.some_y (piece_at-short (s.grid.ny - 1) s.y ix))
    (slab_below (cuts_in_column s ix iy) s.grid.nz p.z h.some_z (piece_at-short (s.grid.nz - 1) s.z (ix * s.grid.ny + iy)))

pub owners_by_cuts_are_ranks : OwnersByCutsAreRanks
owners_by_cuts_are_ranks s p h = let long = h.along_x.counted in owner_by-below s p h.division (omega arith)

pub owners_are_ranks : OwnersAreRanks
unfolding owner cuts_for
owners_are_ranks g js p h = let long = length-cuts_of (λ q. q.x) js g.nx in owner_by-below (cuts_for g js) p h (omega arith)

or_none : (b : Bool) → (b || false) ≡ b
or_none true = refl
or_none false = refl

pub one_rank : OneRankHasItsOwn
one_rank g js rank =
    filter_agree (λ j. list_any (nat_eq (owner g js j.at)) (rank ∷ [])) (λ j. nat_eq (owner g js j.at) rank) (λ j. or_none (nat_eq (owner g js j.at) rank)) js

filter_all : {X : Type 0} (test : X → Bool) → ((x : X) → test x ≡ true) → (xs : List X) → filter test xs ≡ xs
filter_all test all [] = refl
filter_all test all (x ∷ xs) = cond-true (test x) (x ∷ filter test xs) (filter test xs) (all x) ∙ ap (λ l. x ∷ l) (filter_all test all xs)

pub all_ranks : AllRanksHaveAll
all_ranks g js ranks h whole =
    filter_all (λ j. list_any (nat_eq (owner g js j.at)) ranks) (λ j. list_any-from_Contains nat_eq_equiv (owner g js j.at) ranks (whole (owner g js j.at) (owners_are_ranks g js j.at h))) js

pub ranks_in_turn_have_all : PartsByKeyAreAll Particle → RanksInTurnHaveAll
ranks_in_turn_have_all law g js division = law (λ (j : Particle). owner g js j.at) (rank_count g) js (λ j. owners_are_ranks g js j.at division)

pub ranks_by_id_have_all : RanksInTurnHaveAll → PartsKeepPermutations ℕ Particle → OrdersByIdHaveAll → RanksByIdHaveAll
ranks_by_id_have_all in_turn parts by_ids g js division distinct =
    let ranks : List ℕ = range_with_len 0 (rank_count g) in
    IsPermutation-trans js (flat_map (particles_of g js) ranks) (flat_map (λ rank. by_id (particles_of g js rank)) ranks)
    (in_turn g js division)
    (parts (particles_of g js) (λ rank. by_id (particles_of g js rank)) ranks ranks
    (λ rank. by_ids (particles_of g js rank) (some_have_distinct_ids (λ j. nat_eq (owner g js j.at) rank) js distinct)) (IsPermutation-refl ranks))

lone_rank_has_all : (g : Division) (js : List Particle) → IsDivision g → rank_count g ≡ 1 → particles_of g js 0 ≡ js
lone_rank_has_all g js division one =
    let whole : (rank : ℕ) → rank < rank_count g → Contains (0 ∷ []) rank = λ rank below. (0, omega arith, omega arith) in
    sym (one_rank g js 0) ∙ all_ranks g js (0 ∷ []) division whole

pub lone_ranks_have_all : LoneRanksHaveAll
lone_ranks_have_all g js division one =
    ((λ p. let below = owners_are_ranks g js p division in omega arith), lone_rank_has_all g js division one)
