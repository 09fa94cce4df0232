-- Laws of ranks between builds.
use Rattle.std.specs.Prelude.{◌≡◌, ℕ, List, length, map, slice_index_or, All}
use Rattle.pf_model.specs.Criterion.{Criterion}
use Rattle.pf_model.specs.Division.{Division, IsDivision}
use Rattle.pf_model.specs.Particle.{Particle, IsParticle}
use Rattle.pf_model.specs.Particles.{AreBodies}
use Rattle.pf_model.specs.Reuse.{kept_list}
use Rattle.morton_tree.specs.Groups.{groups_of}
use Rattle.morton_tree.specs.Spans.{at_span}
use Rattle.group_lists.specs.Gathering.{Gathering}
use Rattle.list_reuse.specs.Keeping.{Motion}
use Rattle.tree_phase.specs.declared.rank_lists.RankLists.{RankLists}
use Rattle.tree_phase.specs.declared.rank_tree.RankTree.{RankTree}
use Rattle.tree_phase.specs.Trees.{AreGathersOver, AreTreesOf, EachByRank, HaveSentAll, IsFinished}
use Rattle.refresh_phase.specs.Kept.{AreKept, IsRankKept, RankKept, as_built}

-- the groups of a build, with the bodies where they are now, and with the lists of the build as they are now
pub record HasPresentGroups (limit : ℕ) (m : Motion) (r : RankKept) : Type 0 where
  pub bodies : map (λ l. l.bodies) r.lists.groups
      ≡ map (λ group. at_span group.span r.tree.bodies) (groups_of limit r.tree.built)
  pub entries : map (λ l. l.entries) r.lists.groups
      ≡ map (λ group. kept_list m.theta group.around m.particles m.now) (groups_of limit r.tree.built)

-- a rank since a build has them
abbrev pub KeptGroupsHaveTheirLists : Type 0
KeptGroupsHaveTheirLists = (limit : ℕ) (m : Motion) (r : RankKept) → IsRankKept limit m r → HasPresentGroups limit m r

-- what a build on these particles ends with, over its trees
pub record IsBuilt (limit : ℕ) (t : Criterion) (g : Division) (js : List Particle) (trees : List RankTree)
    (gathers : List Gathering) (finished : List RankLists) : Type 0 where
  pub division : IsDivision g
  pub are_bodies : AreBodies js
  pub within_limits : All IsParticle js
  pub trees_are : AreTreesOf limit g js trees
  pub sent : EachByRank (HaveSentAll t g js) trees
  pub over : AreGathersOver g trees gathers
  pub counted : length finished ≡ length gathers
  pub finish : EachByRank (λ rank f. (gather : Gathering) → IsFinished t g js (slice_index_or gathers rank gather) f) finished

-- the ranks of a build
pub record AreAsBuilt (trees : List RankTree) (finished : List RankLists) (ranks : List RankKept) : Type 0 where
  pub counted : length ranks ≡ length finished
  pub each : EachByRank (λ rank r. (tree : RankTree) (f : RankLists) →
      r ≡ as_built (slice_index_or trees rank tree) (slice_index_or finished rank f)) ranks

-- they are kept from then on
abbrev pub BuildsBeginAsKept : Type 0
BuildsBeginAsKept =
    (limit : ℕ) (t : Criterion) (g : Division) (js : List Particle) (trees : List RankTree) (gathers : List Gathering)
    (finished : List RankLists) (ranks : List RankKept) →
    IsBuilt limit t g js trees gathers finished → AreAsBuilt trees finished ranks → AreKept limit t g js js ranks
