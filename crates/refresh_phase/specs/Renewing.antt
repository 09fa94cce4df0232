-- A rank in a step without a build.
use Rattle.std.specs.Prelude.{◌≡◌, ℕ, List, map}
use Rattle.pf_model.specs.Criterion.{Criterion}
use Rattle.pf_model.specs.Division.{Division}
use Rattle.pf_model.specs.Particle.{Particle}
use Rattle.pf_model.specs.Reuse.{as_in}
use Rattle.list_reuse.specs.Keeping.{Motion}
use Rattle.list_reuse.specs.Keeping as reuse
use Rattle.refresh_phase.specs.Kept.{RankKept, IsRankKept, seen_from}

-- a rank whose octree has its particles as they are now
abbrev pub moved_to : List Particle → RankKept → RankKept
moved_to now r = record r { tree = record { built = r.tree.built; bodies = map (as_in now) r.tree.built } }

module _ (t : Criterion) (g : Division) (built : List Particle) where
  -- a rank since this build, as it was at some time
  pub record IsKeptSince (rank : ℕ) (r : RankKept) : Type 0 where
    pub limit : ℕ
    pub before : List Particle
    pub kept : IsRankKept limit (seen_from t g built before rank) r

  -- so, but with its octree moved
  pub record CanRenew (now : List Particle) (rank : ℕ) (r : RankKept) : Type 0 where
    pub before : List Particle
    pub lists : reuse.AreKept (seen_from t g built before rank) r.lists
    pub built_is : r.lists.built ≡ r.tree.built
    pub present : r.tree.bodies ≡ map (as_in now) r.tree.built

-- a rank whose lists are renewed: they are those of the build as they are now, and all else is as before
pub record IsRenewed (m : Motion) (before after : RankKept) : Type 0 where
  pub tree : after.tree ≡ before.tree
  pub sent : after.sent ≡ before.sent
  pub lists : reuse.AreKept m after.lists
  pub built : after.lists.built ≡ before.lists.built
  pub spans : map (λ l. l.span) after.lists.groups ≡ map (λ l. l.span) before.lists.groups
  pub line : after.line ≡ before.line
