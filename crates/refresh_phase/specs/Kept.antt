-- Ranks between builds.
use Rattle.std.specs.Prelude.{◌≡◌, ℕ, List, length, map, flat_map}
use Rattle.pf_model.specs.Criterion.{Criterion}
use Rattle.pf_model.specs.Division.{Division, rank_count}
use Rattle.pf_model.specs.Domains.{particles_of}
use Rattle.pf_model.specs.EssentialTree.{essential_tree}
use Rattle.pf_model.specs.Interaction.{list_of}
use Rattle.pf_model.specs.Particle.{Particle}
use Rattle.pf_model.specs.Reuse.{as_in}
use Rattle.let_inbox.specs.Sources.{others}
use Rattle.morton_tree.specs.declared.group.Group.{Group}
use Rattle.morton_tree.specs.Groups.{groups_of}
use Rattle.morton_tree.specs.Tree.{Octree}
use Rattle.essential_tree.specs.declared.sent.Sent.{Sent}
use Rattle.group_lists.specs.Listing.{Listing}
use Rattle.list_reuse.specs.Keeping.{Motion}
use Rattle.list_reuse.specs.Keeping as reuse
use Rattle.run_model.specs.declared.step_text.RankLine.{RankLine}
use Rattle.run_model.specs.Text.{cells_in, particles_within}
use Rattle.tree_phase.specs.declared.rank_lists.RankLists.{RankLists}
use Rattle.tree_phase.specs.declared.rank_tree.RankTree.{RankTree}
use Rattle.tree_phase.specs.Parcels.{AreSentTo}
use Rattle.tree_phase.specs.Trees.{AreGroupsOf, EachByRank}

-- a rank between builds as clauses see it: its octree, what it keeps of the essential trees that it sent, its lists,
-- and what the text of a step tells of it
pub record RankKept : Type 0 where
  pub tree : Octree
  pub sent : List Sent
  pub lists : Listing
  pub line : RankLine

-- a rank when its lists are built
abbrev pub as_built : RankTree → RankLists → RankKept
as_built r f = record { tree = r.tree; sent = r.sent.items; lists = f.lists; line = f.line }

-- what is told of a rank with these particles and groups at the build
abbrev pub line_of : Criterion → Division → List Particle → ℕ → List Particle → List Group → RankLine
line_of t g js rank own groups =
    let received = flat_map (λ src. essential_tree t g js src rank) (others rank (rank_count g)) in
    let entries = flat_map (λ group. list_of t group.around js) groups in
    record {
      particles = length own;
      groups = length groups;
      cells = cells_in received;
      parts = particles_within received;
      listcells = cells_in entries;
      listparts = particles_within entries;
    }

-- a rank since a build: the octree of what it owned then, with its particles as they are now, what it sent then, the
-- lists of its groups of then, and what was told of it then
pub record IsRankKept (limit : ℕ) (m : Motion) (r : RankKept) : Type 0 where
  pub groups : AreGroupsOf limit (particles_of m.grid m.particles m.rank) r.tree.built (groups_of limit r.tree.built)
  pub present : r.tree.bodies ≡ map (as_in m.now) r.tree.built
  pub sent : AreSentTo m.theta m.grid m.particles m.rank r.tree.built (others m.rank (rank_count m.grid)) r.sent
  pub lists : reuse.AreKept m r.lists
  pub built : r.lists.built ≡ r.tree.built
  pub spans : map (λ l. l.span) r.lists.groups ≡ map (λ group. group.span) (groups_of limit r.tree.built)
  pub line : r.line ≡ line_of m.theta m.grid m.particles m.rank r.tree.built (groups_of limit r.tree.built)

-- a build seen from a rank
abbrev pub seen_from : Criterion → Division → List Particle → List Particle → ℕ → Motion
seen_from t g built now rank = record { theta = t; grid = g; particles = built; rank = rank; now = now }

-- so each rank
pub record AreKept (limit : ℕ) (t : Criterion) (g : Division) (built now : List Particle) (ranks : List RankKept)
    : Type 0 where
  pub counted : length ranks ≡ rank_count g
  pub each : EachByRank (λ rank r. IsRankKept limit (seen_from t g built now rank) r) ranks
