-- What ranks have in the phases of a step without a build.
use Rattle.std.specs.Prelude.{◌≡◌, ℕ, ◌<◌, Some, None, false, List, length, map, slice_index_or, All, IfSome, Vec}
use Rattle.std.specs.Global.{Global}
use Rattle.pf_model.specs.Criterion.{Criterion}
use Rattle.pf_model.specs.Division.{Division, rank_count}
use Rattle.pf_model.specs.Particle.{Particle}
use Rattle.let_inbox.specs.declared.inbox.Inbox.{Inbox}
use Rattle.let_inbox.specs.declared.tokens.Spent.{Spent}
use Rattle.all_to_all.specs.declared.post.Post.{Post}
use Rattle.list_reuse.specs.Refreshing.{Renewal}
use Rattle.tree_phase.specs.declared.arrivals.Arrivals.{Arrivals}
use Rattle.tree_phase.specs.Trees.{IsArrivalAt}
use Rattle.refresh_phase.specs.declared.moving.Mover.{Mover}
use Rattle.refresh_phase.specs.declared.renewing.Renewer.{Renewer}
use Rattle.refresh_phase.specs.Exchange.{IsFresh, HasSent, CanSettle}
use Rattle.refresh_phase.specs.Kept.{RankKept, seen_from}
use Rattle.refresh_phase.specs.Renewing.{IsKeptSince, CanRenew, IsRenewed, moved_to}

-- a rank with its post
abbrev pub mover_of : RankKept × Post Renewal → Mover
mover_of b = record { rank = b.0; post = b.1; refused = false }

-- a rank with its post and its tokens
abbrev pub renewer_of : (RankKept × Post Renewal) × Vec (Spent Renewal) Global → Renewer
renewer_of b = record { rank = b.0.0; post = b.0.1; tokens = b.1; arrivals = None }

-- a rank before the phase Trees, whose post is fresh
pub record CanMove (t : Criterion) (g : Division) (built : List Particle) (inboxes : List (Inbox Renewal)) (rank : ℕ)
    (x : Mover) : Type 0 where
  pub post : IsFresh inboxes rank x.post
  pub kept : IsKeptSince t g built rank x.rank

module _ (t : Criterion) (g : Division) (built now : List Particle) (inboxes : List (Inbox Renewal)) where
  -- and after it, unless it found no memory
  pub record IsMoved (rank : ℕ) (before : RankKept) (after : RankKept) (post : Post Renewal) : Type 0 where
    pub moved : after ≡ moved_to now before
    pub sent : HasSent t g built now inboxes rank post

  abbrev pub HasMoved : ℕ → Mover → Mover → Type 0
  HasMoved rank before after = after.refused ≡ false → IsMoved rank before.rank after.rank after.post

  -- so each rank
  pub record HaveMoved (before after : List Mover) : Type 0 where
    pub all : length after ≡ length before
    pub each : (rank : ℕ) (x : Mover) → rank < length before →
        HasMoved rank (slice_index_or before rank x) (slice_index_or after rank x)

  -- a rank before the phase Gather
  pub record CanSettleRank (rank : ℕ) (x : Renewer) : Type 0 where
    pub settles : CanSettle t g built now inboxes rank x.post x.tokens.items
    pub renews : CanRenew t g built now rank x.rank

-- each of them found memory, and has this rank and this post
pub record AreParted (movers : List Mover) (ranks : List RankKept) (posts : List (Post Renewal)) : Type 0 where
  pub found : All (λ x. x.refused ≡ false) movers
  pub ranks_are : ranks ≡ map (λ x. x.rank) movers
  pub posts_are : posts ≡ map (λ x. x.post) movers

module _ (t : Criterion) (g : Division) (built now : List Particle) where
  -- a rank after the phase Gather, unless it found no memory
  pub record IsSettled (rank : ℕ) (before after : RankKept) (arrivals : Arrivals) : Type 0 where
    pub renewed : IsRenewed (seen_from t g built now rank) before after
    pub came : IsArrivalAt (rank_count g) rank arrivals

  abbrev pub HasSettled : ℕ → Renewer → Renewer → Type 0
  HasSettled rank before after = IfSome after.arrivals (IsSettled rank before.rank after.rank)

  -- so each rank
  pub record HaveSettled (before after : List Renewer) : Type 0 where
    pub all : length after ≡ length before
    pub each : (rank : ℕ) (x : Renewer) → rank < length before →
        HasSettled rank (slice_index_or before rank x) (slice_index_or after rank x)

-- each of them found memory, and has this rank and these arrivals
pub record AreRenewed (renewers : List Renewer) (ranks : List RankKept) (arrivals : List Arrivals) : Type 0 where
  pub ranks_are : ranks ≡ map (λ x. x.rank) renewers
  pub arrivals_are : map (λ a. Some a) arrivals ≡ map (λ x. x.arrivals) renewers

-- all have settled
pub record AreSettled (t : Criterion) (g : Division) (built now : List Particle) (before after : List RankKept)
    (arrivals : List Arrivals) : Type 0 where
  pub ranks : length after ≡ length before
  pub all : length arrivals ≡ length before
  pub each : (rank : ℕ) (r s : RankKept) (a : Arrivals) → rank < length before → IsSettled t g built now rank
      (slice_index_or before rank r) (slice_index_or after rank s) (slice_index_or arrivals rank a)
