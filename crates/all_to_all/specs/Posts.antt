-- What clauses see of the posts of ranks.
use Rattle.std.specs.Prelude.{◌≡◌, ℕ, ◌<◌, List, [], length, map, All}
use Rattle.std.specs.List.{range_with_len}
use Rattle.let_inbox.specs.declared.inbox.Inbox.{Inbox}
use Rattle.let_inbox.specs.Sources.{others}
use Rattle.let_inbox.specs.Tokens.{settled_by, taken_by, KeepsArrivals}
use Rattle.all_to_all.specs.declared.post.Post.{Post}
use Rattle.all_to_all.specs.Incoming.{IsIncomingOf}
use Rattle.all_to_all.specs.Outgoing.{AtRank, unsent_of, sent_of, IsOutgoingOf}

-- a post as clauses see it: its rank, the ranks for which it has put nothing yet, the parcels that it put and whose
-- tokens it still has, those that it took, in order, and those that the tokens carry with which it was settled
pub record PostState (M : Type 0) : Type 0 where
  pub rank : ℕ
  pub unsent : List ℕ
  pub sent : List M
  pub received : List M
  pub settled : List M

module _ {M : Type 0} where
  abbrev pub state_of : Post M → PostState M
  state_of p = record {
    rank = p.rank;
    unsent = unsent_of p.outgoing;
    sent = sent_of p.outgoing;
    received = p.incoming.parcels.items;
    settled = settled_by p.incoming.taker;
  }

  -- nothing was put or taken yet
  abbrev pub fresh_state : ℕ → ℕ → PostState M
  fresh_state rank ranks = record { rank = rank; unsent = others rank ranks; sent = []; received = []; settled = [] }

  -- the post knows from which ranks its parcels came
  pub record KeepsSources (source : M → ℕ) (p : Post M) : Type 0 where
    pub arrivals : KeepsArrivals source p.incoming.taker
    pub taken : p.incoming.parcels.items ≡ taken_by p.incoming.taker

  module _ (source target : M → ℕ) (has_terms : M → Type 0) where
    -- the post of a rank among these, of the inboxes that are open
    pub record FitsInboxes (ranks : ℕ) (inboxes : List (Inbox M)) (p : Post M) : Type 0 where
      pub within : p.rank < length inboxes
      pub incoming : AtRank inboxes p.rank (λ i. IsIncomingOf source target has_terms i p.incoming)
      pub outgoing : IsOutgoingOf source target ranks inboxes p.rank p.outgoing
      pub sources : KeepsSources source p

    -- it is the post of a rank, of these inboxes of all ranks
    abbrev pub IsPostOf : List (Inbox M) → Post M → Type 0
    IsPostOf inboxes p = FitsInboxes (length inboxes) inboxes p

    -- the posts of all ranks, by rank
    pub record ArePostsOf (inboxes : List (Inbox M)) (posts : List (Post M)) : Type 0 where
      pub each : All (IsPostOf inboxes) posts
      pub ranks : map (λ p. (state_of p).rank) posts ≡ range_with_len 0 (length inboxes)
