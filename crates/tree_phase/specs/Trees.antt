-- The tree of each rank, and what it gathers.
use Rattle.std.specs.Prelude.{◌≡◌, ℕ, ◌+◌, ◌*◌, ◌≤◌, List, length, map, flat_map, All}
use Rattle.std.specs.Prelude.{IsPermutation, slice_index_or}
use Rattle.std.specs.List.{AllZip}
use Rattle.pf_model.specs.declared.entry.Entry.{Entry}
use Rattle.pf_model.specs.declared.limits.TheConstants.{MOST_PARTICLES}
use Rattle.pf_model.specs.Criterion.{Criterion}
use Rattle.pf_model.specs.Division.{Division, rank_count}
use Rattle.pf_model.specs.Domains.{particles_of}
use Rattle.pf_model.specs.EssentialTree.{essential_tree}
use Rattle.pf_model.specs.Interaction.{list_of}
use Rattle.pf_model.specs.Particle.{Particle}
use Rattle.morton_tree.specs.declared.group.Group.{Group}
use Rattle.morton_tree.specs.Groups.{groups_of, IsGroup}
use Rattle.morton_tree.specs.Spans.{at_span, FollowOneAnother}
use Rattle.morton_tree.specs.Tree.{IsUnmoved}
use Rattle.exchange.specs.States.{Holding}
use Rattle.group_lists.specs.Gathering.{Gathering, IsGroupOf}
use Rattle.group_lists.specs.Listing.{IsSource}
use Rattle.let_inbox.specs.Sources.{others}
use Rattle.run_model.specs.Text.{cells_in, particles_within}
use Rattle.tree_phase.specs.declared.arrivals.Arrivals.{Arrivals}
use Rattle.tree_phase.specs.declared.rank_lists.RankLists.{RankLists}
use Rattle.tree_phase.specs.declared.rank_tree.RankTree.{RankTree}
use Rattle.tree_phase.specs.Counts.{counts_of}
use Rattle.tree_phase.specs.Parcels.{AreSentTo}
pub use Rattle.all_to_all.specs.Exchanging.{EachByRank}

-- each rank has what it owns, in the order of the particles
pub record HaveOwn (g : Division) (js : List Particle) (ranks : List Holding) : Type 0 where
  pub counted : length ranks ≡ rank_count g
  pub each : EachByRank (λ rank h. h.bodies ≡ particles_of g js rank) ranks

-- the groups of these particles, with their spans among the same particles in the order of a tree
pub record AreGroupsOf (limit : ℕ) (js own : List Particle) (groups : List Group) : Type 0 where
  pub same : IsPermutation js own
  pub value : groups ≡ groups_of limit own
  pub in_turn : FollowOneAnother 0 (length own) (map (λ g. g.span) groups)
  pub each : All (IsGroup limit own) groups

-- the tree of these particles, where they stand, with their groups
pub record IsTreeOf (limit : ℕ) (js : List Particle) (r : RankTree) : Type 0 where
  pub unmoved : IsUnmoved r.tree
  pub few : length r.groups.items ≤ length r.tree.built
  pub groups : AreGroupsOf limit js r.tree.built r.groups.items

-- so each rank's, of what it owns
pub record AreTreesOf (limit : ℕ) (g : Division) (js : List Particle) (trees : List RankTree) : Type 0 where
  pub counted : length trees ≡ rank_count g
  pub each : EachByRank (λ rank r. IsTreeOf limit (particles_of g js rank) r) trees

-- what a rank keeps of the essential trees that it sent, one for each other rank
abbrev pub HaveSentAll : Criterion → Division → List Particle → ℕ → RankTree → Type 0
HaveSentAll t g js rank r = AreSentTo t g js rank r.tree.built (others rank (rank_count g)) r.sent.items

-- the tree of what a rank owns, with groups of it
pub record IsRankTree (g : Division) (js : List Particle) (rank : ℕ) (r : RankTree) : Type 0 where
  pub unmoved : IsUnmoved r.tree
  pub own : IsPermutation r.tree.built (particles_of g js rank)
  pub few : length r.groups.items ≤ MOST_PARTICLES
  pub groups : All (IsGroupOf r.tree.built) r.groups.items

-- so each rank's
pub record AreRankTrees (g : Division) (js : List Particle) (trees : List RankTree) : Type 0 where
  pub counted : length trees ≡ rank_count g
  pub each : EachByRank (IsRankTree g js) trees

-- what a rank gathers from all others, by its tree
abbrev pub gathered_over : Division → ℕ → RankTree → Gathering
gathered_over g rank r = record {
  rank = rank;
  own = r.tree.built;
  groups = r.groups.items;
  absorbed = others rank (rank_count g);
}

-- so each rank
pub record AreGathersOver (g : Division) (trees : List RankTree) (gathers : List Gathering) : Type 0 where
  pub counted : length gathers ≡ rank_count g
  pub each : EachByRank (λ rank gather. (r : RankTree) →
      gather ≡ gathered_over g rank (slice_index_or trees rank r)) gathers

-- the items of the essential trees that a gather absorbed
abbrev pub received_by : Criterion → Division → List Particle → Gathering → List Entry
received_by t g js gather = flat_map (λ src. essential_tree t g js src gather.rank) gather.absorbed

-- so many particles of its own, and cells and particles in what it absorbed
pub record IsCounted (t : Criterion) (g : Division) (js : List Particle) (gather : Gathering) (own cells parts : ℕ)
    : Type 0 where
  pub few : length gather.groups ≤ MOST_PARTICLES
  pub of_own : own ≡ length gather.own
  pub of_cells : cells ≡ cells_in (received_by t g js gather)
  pub of_parts : parts ≡ particles_within (received_by t g js gather)
  pub short : cells + parts ≤ length gather.absorbed * MOST_PARTICLES

-- what a rank has gathered from all others, over its groups
pub record HasGathered (limit : ℕ) (g : Division) (js : List Particle) (rank : ℕ) (gather : Gathering) : Type 0 where
  pub number : gather.rank ≡ rank
  pub absorbed : gather.absorbed ≡ others rank (rank_count g)
  pub groups : AreGroupsOf limit (particles_of g js rank) gather.own gather.groups

-- so each rank
pub record HaveGathered (limit : ℕ) (g : Division) (js : List Particle) (gathers : List Gathering) : Type 0 where
  pub counted : length gathers ≡ rank_count g
  pub each : EachByRank (HasGathered limit g js) gathers

-- the number of a rank, and each other rank once
pub record IsArrivalAt (ranks rank : ℕ) (a : Arrivals) : Type 0 where
  pub number : a.rank ≡ rank
  pub sources : IsPermutation (others rank ranks) a.sources.items

-- one for each rank by number
pub record AreArrivals (ranks : ℕ) (arrivals : List Arrivals) : Type 0 where
  pub counted : length arrivals ≡ ranks
  pub each : EachByRank (IsArrivalAt ranks) arrivals

-- what a gather ends with, where every rank is in: its lists, and what is told of them
pub record IsFinished (t : Criterion) (g : Division) (js : List Particle) (gather : Gathering) (r : RankLists)
    : Type 0 where
  pub bodies : map (λ l. l.bodies) r.lists.groups ≡ map (λ group. at_span group.span gather.own) gather.groups
  pub entries : map (λ l. l.entries) r.lists.groups ≡ map (λ group. list_of t group.around js) gather.groups
  pub spans : map (λ l. l.span) r.lists.groups ≡ map (λ group. group.span) gather.groups
  pub built : r.lists.built ≡ gather.own
  pub own : r.lists.own ≡ gather.own
  pub sources : AllZip (λ src s. IsSource (essential_tree t g js src gather.rank) src s) gather.absorbed r.lists.sources
  pub line :
      let received = received_by t g js gather in
      r.line ≡ counts_of (length gather.own) (cells_in received) (particles_within received) r.lists.groups
