-- What the gathers of a build end with, and what ranks can keep of it.
use Rattle.std.specs.Prelude.{◌≡◌, ℕ, List, length, slice_index_or}
use Rattle.pf_model.specs.Criterion.{Criterion}
use Rattle.pf_model.specs.Division.{Division}
use Rattle.pf_model.specs.Particle.{Particle}
use Rattle.group_lists.specs.Gathering.{Gathering}
use Rattle.tree_phase.specs.declared.rank_lists.RankLists.{RankLists}
use Rattle.tree_phase.specs.declared.rank_tree.RankTree.{RankTree}
use Rattle.tree_phase.specs.Trees.{EachByRank, IsFinished}
use Rattle.refresh_phase.specs.Kept.{RankKept, AreKept}
use Rattle.refresh_phase.specs.Laws.{AreAsBuilt}
use Rattle.rank_step.specs.declared.keeping.RankBuilt.{RankBuilt}

-- the lists of each rank, and what is told of them
pub record AreFinished (t : Criterion) (g : Division) (js : List Particle) (gathers : List Gathering)
    (finished : List RankLists) : Type 0 where
  pub counted : length finished ≡ length gathers
  pub each : EachByRank (λ rank r. (gather : Gathering) →
      IsFinished t g js (slice_index_or gathers rank gather) r) finished

-- a rank with its tree and its lists
abbrev pub rank_built : RankTree × RankLists → RankBuilt
rank_built both = record { tree = both.0; lists = both.1 }

-- what ranks keep of these trees and lists are those of a build on these particles
abbrev pub BeginAsKept : ℕ → Criterion → Division → List Particle → List RankTree → List RankLists → Type 0
BeginAsKept limit t g js trees lists =
    (ranks : List RankKept) → AreAsBuilt trees lists ranks → AreKept limit t g js js ranks
