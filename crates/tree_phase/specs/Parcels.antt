-- The essential trees that ranks send one another.
use Rattle.std.specs.Prelude.{◌≡◌, ℕ, List, map, All}
use Rattle.pf_model.specs.Criterion.{Criterion}
use Rattle.pf_model.specs.Division.{Division}
use Rattle.pf_model.specs.Domains.{domain_box}
use Rattle.pf_model.specs.EssentialTree.{essential_tree}
use Rattle.pf_model.specs.Particle.{Particle}
use Rattle.let_inbox.specs.Sources.{others}
use Rattle.essential_tree.specs.declared.sent.Sent.{Sent}
use Rattle.essential_tree.specs.declared.tree_parcel.TreeParcel.{TreeParcel}
use Rattle.essential_tree.specs.Sending.{IsSentOf}

module _ {X : Type 0} (t : Criterion) (g : Division) (js : List Particle) where
  -- the essential tree that a rank sends another
  abbrev pub tree_sent : ℕ → ℕ → TreeParcel X
  tree_sent src dst = record { tree = record { src = src; dst = dst; items = essential_tree t g js src dst } }

  -- those that a rank sends, by the ranks for which they are
  abbrev pub trees_sent : ℕ → ℕ → List (TreeParcel X)
  trees_sent rank ranks = map (tree_sent rank) (others rank ranks)

  -- those that are for a rank, by the ranks from which they are
  abbrev pub trees_received : ℕ → ℕ → List (TreeParcel X)
  trees_received rank ranks = map (λ src. tree_sent src rank) (others rank ranks)

module _ (t : Criterion) (g : Division) (js : List Particle) where
  -- what a rank with these particles keeps of the essential trees that it sent, by the ranks for which they are
  pub record AreSentTo (rank : ℕ) (built : List Particle) (dsts : List ℕ) (sent : List Sent) : Type 0 where
    pub dsts_are : map (λ s. s.dst) sent ≡ dsts
    pub each : All (λ s. IsSentOf t (domain_box g js s.dst) built (essential_tree t g js rank s.dst) s) sent
