-- What the ranks share in a phase.
use Rattle.std.specs.Prelude.{◌≡◌, ℕ, ◌≤◌, List}
use Rattle.pf_model.specs.declared.limits.TheConstants.{MOST_GROUP}
use Rattle.pf_model.specs.Criterion.{Criterion}
use Rattle.pf_model.specs.Division.{Division, rank_count}
use Rattle.pf_model.specs.Particle.{Particle}
use Rattle.exchange.specs.States.{Holding}
use Rattle.multisection.specs.Regions.{AreTargets, Regions}
use Rattle.tree_phase.specs.Trees.{HaveOwn}

module _ (t : Criterion) (g : Division) (js : List Particle) (theta : Criterion) (limit inboxes : ℕ) where
  -- what trees are grown from
  pub record AreGrounds (ranks : List Holding) (domains : Regions) : Type 0 where
    pub criterion : theta ≡ t
    pub some : 1 ≤ limit
    pub most : limit ≤ MOST_GROUP
    pub own : HaveOwn g js ranks
    pub targets : AreTargets g js domains
    pub counted : inboxes ≡ rank_count g
