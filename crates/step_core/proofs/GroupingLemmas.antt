-- Groups of ranks, one rank after another.
use Rattle.std.proofs.Common.{◌≡◌, ℕ, ◌+◌, ◌^◌, ◌<◌, ◌≤◌, Bool, List, [], ◌∷◌, ◌++◌, length, map, refl, sym, ◌∙◌, arith}
use Rattle.std.specs.Prelude.{nat_eq}
use Rattle.std.specs.List.{range_with_len, flat_map}
use Rattle.std.proofs.lemmas.List.{length-map, map-append}
use Rattle.std.proofs.lemmas.List.Sums.{length-filter, count_by-le-length}
use Rattle.std.proofs.lemmas.Simd.{map-map}
use Rattle.pf_geom.specs.Octant.{Octant}
use Rattle.pf_model.specs.Particle.{Particle}
use Rattle.pf_model.specs.Division.{Division, IsDivision, rank_count}
use Rattle.pf_model.specs.Domains.{cuts_for, owner, particles_of}
use Rattle.pf_model.specs.Group.{particles_in, group_cells}
use Rattle.model_laws.specs.GroupLaws.{GroupsAreFew}
use Rattle.pf_model.specs.Groups.{RankGroup, groups_of_rank, all_groups}
use Rattle.step_core.specs.Core.{Settings, IsSettings, numbered_groups}
use Rattle.step_core.specs.Plain.{listed_site, site_in, plain_owned, sites_by}
use Rattle.step_core.proofs.RangeLemmas.{length-flat_map-range}

-- what is kept of the groups of ranks, by the cuts that the particles make
kept_of_ranks : (limit : ℕ) (g : Division) (js : List Particle) (ranks : List ℕ)
    → flat_map (λ rank. map (site_in (plain_owned (cuts_for g js) js rank) rank) (group_cells limit (plain_owned (cuts_for g js) js rank))) ranks
    ≡ map listed_site (flat_map (groups_of_rank limit g js) ranks)
unfolding owner
kept_of_ranks limit g js [] = refl
kept_of_ranks limit g js (rank ∷ ranks) =
    let own = particles_of g js rank in
    let cells = group_cells limit own in
    let here : map (site_in own rank) cells ≡ map listed_site (groups_of_rank limit g js rank) =
    sym (map-map listed_site (λ (c : Octant). record { rank = rank; members = particles_in c own }) cells) in
    (λ i. here i ++ kept_of_ranks limit g js ranks i)
    ∙ sym (map-append listed_site (groups_of_rank limit g js rank) (flat_map (groups_of_rank limit g js) ranks))

pub sites_are : (limit : ℕ) (g : Division) (js : List Particle) → sites_by limit (cuts_for g js) js (rank_count g) ≡ map listed_site (all_groups limit g js)
unfolding all_groups
sites_are limit g js = kept_of_ranks limit g js (range_with_len 0 (rank_count g))

-- ---- how many groups there are

few_of_rank : GroupsAreFew → (limit : ℕ) (g : Division) (js : List Particle) (rank : ℕ) → length (groups_of_rank limit g js rank) ≤ length js
few_of_rank law limit g js rank =
    let test : Particle → Bool = λ j. nat_eq (owner g js j.at) rank in
    let own = particles_of g js rank in
    let group_in : Octant → RankGroup = λ c. record { rank = rank; members = particles_in c own } in
    let a = length-map (group_cells limit own) group_in in
    let b = law limit own in
    let d = length-filter test js in
    let e = count_by-le-length test js in
    omega arith

-- there are few groups
pub few_groups : GroupsAreFew → (s : Settings) → IsDivision s.grid → IsSettings s → length (numbered_groups s) < 2 ^ 32
unfolding all_groups
few_groups law s division h =
    let most = length-flat_map-range (groups_of_rank s.limit s.grid s.bodies) 0 (rank_count s.grid) 65536
    (λ rank. let few = few_of_rank law s.limit s.grid s.bodies rank in let bodies = h.bodies.few in omega arith) in
    let ranks = division.few in
    omega arith
