-- How the essential trees go from rank to rank.
use Rattle.std.specs.Prelude.{◌≡◌, ℕ, List, slice_index_or}
use Rattle.std.specs.Prelude.{Vec}
use Rattle.std.specs.Global.{Global}
use Rattle.pf_model.specs.Criterion.{Criterion}
use Rattle.pf_model.specs.Division.{Division, rank_count}
use Rattle.pf_model.specs.Domains.{particles_of}
use Rattle.pf_model.specs.EssentialTree.{essential_tree}
use Rattle.pf_model.specs.Particle.{Particle}
use Rattle.essential_tree.specs.declared.tree_parcel.TreeParcel.{TreeParcel}
use Rattle.let_inbox.specs.declared.inbox.Inbox.{Inbox}
use Rattle.let_inbox.specs.declared.tokens.Spent.{Spent}
use Rattle.all_to_all.specs.declared.post.Post.{Post}
use Rattle.all_to_all.specs.Exchanging as posts
use Rattle.all_to_all.specs.Posts.{IsPostOf}
use Rattle.tree_phase.specs.declared.gathering.Receiver.{Receiver}
use Rattle.tree_phase.specs.declared.gathering.Receiver.TheVariants.{Waiting, Received, Refused}
use Rattle.tree_phase.specs.declared.rank_tree.RankTree.{RankTree}
use Rattle.group_lists.specs.Gathering.{Gathering}
use Rattle.tree_phase.specs.declared.arrivals.Arrivals.{Arrivals}
use Rattle.tree_phase.specs.Parcels.{tree_sent}
use Rattle.tree_phase.specs.Trees.{HaveSentAll, IsArrivalAt, IsTreeOf, gathered_over}

module _ {X : Type 0} where
  -- the rank that a parcel is from, and the one that it is for
  abbrev pub tree_source : TreeParcel X → ℕ
  tree_source p = p.tree.src

  abbrev pub tree_target : TreeParcel X → ℕ
  tree_target p = p.tree.dst

module _ {X : Type 0} (t : Criterion) (g : Division) (js : List Particle) where
  -- it holds the essential tree for the ranks that it names
  abbrev pub is_essential : TreeParcel X → Type 0
  is_essential p = p.tree.items ≡ essential_tree t g js p.tree.src p.tree.dst

  abbrev pub IsTreePost : List (Inbox (TreeParcel X)) → Post (TreeParcel X) → Type 0
  IsTreePost inboxes p = IsPostOf tree_source tree_target is_essential inboxes p

  -- the post of a rank that has sent and received nothing
  abbrev pub IsFresh : List (Inbox (TreeParcel X)) → ℕ → Post (TreeParcel X) → Type 0
  IsFresh inboxes rank p = posts.IsFresh tree_source tree_target is_essential inboxes rank p

  -- the post of a rank that has sent each other rank its essential tree
  abbrev pub HasSent : List (Inbox (TreeParcel X)) → ℕ → Post (TreeParcel X) → Type 0
  HasSent inboxes rank p = posts.HasSent tree_source tree_target is_essential (tree_sent t g js) inboxes rank p

  -- so, and it has the tree of what it owns, and keeps what it sent
  pub record HasGrown (limit : ℕ) (inboxes : List (Inbox (TreeParcel X))) (rank : ℕ) (p : Post (TreeParcel X))
      (r : RankTree) : Type 0 where
    pub post : HasSent inboxes rank p
    pub tree : IsTreeOf limit (particles_of g js rank) r
    pub kept : HaveSentAll t g js rank r

  -- the post of a rank, and the tokens of the trees that were sent to it
  abbrev pub CanSettle : List (Inbox (TreeParcel X)) → ℕ → Post (TreeParcel X) → List (Spent (TreeParcel X)) → Type 0
  CanSettle inboxes rank p tokens =
      posts.CanSettle tree_source tree_target is_essential (tree_sent t g js) inboxes rank p tokens

  -- so each rank
  abbrev pub CanAllSettle :
      List (Inbox (TreeParcel X)) → List (Post (TreeParcel X)) → List (Vec (Spent (TreeParcel X)) Global) → Type 0
  CanAllSettle inboxes ps tokens =
      posts.CanAllSettle tree_source tree_target is_essential (tree_sent t g js) inboxes ps tokens

  -- a rank before the phase Gather
  abbrev pub Waits : List (Inbox (TreeParcel X)) → ℕ → Receiver X → Type 0
  Waits inboxes rank (Waiting post tokens) = CanSettle inboxes rank post tokens.items
  Waits inboxes rank (Received gather arrivals) = ⊥
  Waits inboxes rank Refused = ⊥

module _ {X : Type 0} (g : Division) where
  -- and after it, with the tree that it has, unless it found no memory
  abbrev pub EndsWith : ℕ → RankTree → Receiver X → Type 0
  EndsWith rank r (Waiting post tokens) = ⊥
  EndsWith rank r (Received gather arrivals) =
      (gather ≡ gathered_over g rank r) × IsArrivalAt (rank_count g) rank arrivals
  EndsWith rank r Refused = Unit {0}

  pub record HasEnded (trees : List RankTree) (rank : ℕ) (x : Receiver X) : Type 0 where
    pub ends : (r : RankTree) → EndsWith rank (slice_index_or trees rank r) x

module _ {X : Type 0} where
  -- a rank with its post and its tokens, and one with what it has gathered
  abbrev pub waiting : Post (TreeParcel X) × Vec (Spent (TreeParcel X)) Global → Receiver X
  waiting b = Waiting b.0 b.1

  abbrev pub received : Gathering × Arrivals → Receiver X
  received b = Received b.0 b.1
