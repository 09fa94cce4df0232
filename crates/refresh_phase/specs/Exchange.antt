-- How present values of essential trees go from rank to rank.
use Rattle.std.specs.Prelude.{ℕ, List, map, ⊤}
use Rattle.std.specs.Prelude.{Vec}
use Rattle.std.specs.Global.{Global}
use Rattle.pf_model.specs.Criterion.{Criterion}
use Rattle.pf_model.specs.Division.{Division}
use Rattle.pf_model.specs.Particle.{Particle}
use Rattle.let_inbox.specs.declared.inbox.Inbox.{Inbox}
use Rattle.let_inbox.specs.declared.tokens.Spent.{Spent}
use Rattle.let_inbox.specs.Sources.{others}
use Rattle.all_to_all.specs.declared.post.Post.{Post}
use Rattle.all_to_all.specs.Exchanging as posts
use Rattle.all_to_all.specs.Posts.{IsPostOf}
use Rattle.list_reuse.specs.Keeping.{values_from}
use Rattle.list_reuse.specs.Refreshing.{Renewal}
use Rattle.refresh_phase.specs.Kept.{seen_from}

-- the rank that a refresh is from, and the one that it is for
abbrev pub source_of : Renewal → ℕ
source_of r = r.src

abbrev pub target_of : Renewal → ℕ
target_of r = r.dst

-- its type has no terms
abbrev pub IsRefreshPost : List (Inbox Renewal) → Post Renewal → Type 0
IsRefreshPost inboxes p = IsPostOf source_of target_of (λ _. ⊤) inboxes p

-- the post of a rank that has sent and received nothing
abbrev pub IsFresh : List (Inbox Renewal) → ℕ → Post Renewal → Type 0
IsFresh inboxes rank p = posts.IsFresh source_of target_of (λ _. ⊤) inboxes rank p

module _ (t : Criterion) (g : Division) (built now : List Particle) where
  -- the refresh that a rank sends another: the items of the essential tree of the build, as they are now
  abbrev pub refresh_sent : ℕ → ℕ → Renewal
  refresh_sent src dst = record { src = src; dst = dst; values = values_from (seen_from t g built now dst) src }

  -- those that a rank sends, by the ranks for which they are
  abbrev pub refreshes_sent : ℕ → ℕ → List Renewal
  refreshes_sent rank ranks = map (refresh_sent rank) (others rank ranks)

  -- those that are for a rank, by the ranks from which they are
  abbrev pub refreshes_received : ℕ → ℕ → List Renewal
  refreshes_received rank ranks = map (λ src. refresh_sent src rank) (others rank ranks)

  -- the post of a rank that has sent each other rank its refresh
  abbrev pub HasSent : List (Inbox Renewal) → ℕ → Post Renewal → Type 0
  HasSent inboxes rank p = posts.HasSent source_of target_of (λ _. ⊤) refresh_sent inboxes rank p

  -- the post of a rank, and the tokens of the refreshes that were sent to it
  abbrev pub CanSettle : List (Inbox Renewal) → ℕ → Post Renewal → List (Spent Renewal) → Type 0
  CanSettle inboxes rank p tokens = posts.CanSettle source_of target_of (λ _. ⊤) refresh_sent inboxes rank p tokens

  -- so each rank
  abbrev pub CanAllSettle : List (Inbox Renewal) → List (Post Renewal) → List (Vec (Spent Renewal) Global) → Type 0
  CanAllSettle inboxes ps tokens = posts.CanAllSettle source_of target_of (λ _. ⊤) refresh_sent inboxes ps tokens
