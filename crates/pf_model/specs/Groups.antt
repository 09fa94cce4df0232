-- The groups of all ranks, by their numbers, and their interaction lists.
use Rattle.std.specs.Prelude.{ℕ, List, length, map, Option, slice_get}
use Rattle.std.specs.List.{range_with_len, flat_map}
use Rattle.pf_model.specs.declared.entry.Entry.{Entry}
use Rattle.pf_model.specs.Particle.{Particle}
use Rattle.pf_model.specs.Criterion.{Criterion}
use Rattle.pf_model.specs.Division.{Division, rank_count}
use Rattle.pf_model.specs.Domains.{owner, particles_of}
use Rattle.pf_model.specs.Interaction.{list_of}
use Rattle.pf_model.specs.Group.{particles_in, group_of, group_cells, box_of}
use Rattle.pf_model.specs.EssentialTree.{limited_list}

-- a group: its rank, and its particles
pub record RankGroup : Type 0 where
  pub rank : ℕ
  pub members : List Particle

-- the groups of a rank, by the key of their cell's corner
abbrev pub groups_of_rank : ℕ → Division → List Particle → ℕ → List RankGroup
groups_of_rank limit g js rank =
    let own = particles_of g js rank in
    map (λ c. record { rank = rank; members = particles_in c own }) (group_cells limit own)

-- the groups of all ranks in the order of their numbers: by rank, then by the key of their cell's corner
unfoldable pub all_groups : ℕ → Division → List Particle → List RankGroup
all_groups limit g js = flat_map (groups_of_rank limit g js) (range_with_len 0 (rank_count g))

-- how many there are
abbrev pub group_count : ℕ → Division → List Particle → ℕ
group_count limit g js = length (all_groups limit g js)

-- the group of number n, counted from 0, if there is one
abbrev pub group_numbered : ℕ → Division → List Particle → ℕ → Option RankGroup
group_numbered limit g js n = slice_get (all_groups limit g js) n

-- the group of a particle
abbrev pub group_with : ℕ → Division → List Particle → Particle → RankGroup
group_with limit g js i =
    let rank = owner g js i.at in
    record { rank = rank; members = group_of limit (particles_of g js rank) i }

-- the interaction list of a group, over all particles
abbrev pub group_list : Criterion → List Particle → RankGroup → List Entry
group_list t js group = list_of t (box_of group.members) js

-- the interaction list of a group limited to some ranks
abbrev pub limited_group_list : Criterion → Division → List Particle → RankGroup → List ℕ → List Entry
limited_group_list t g js group ranks = limited_list t (box_of group.members) g js ranks
