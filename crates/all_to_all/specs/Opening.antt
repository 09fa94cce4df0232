-- How inboxes are opened, and their putters handed out.
use Rattle.std.specs.Prelude.{◌≡◌, ℕ, ◌-◌, ◌<◌, ◌≤◌, List, [], length, map, slice_index_or, All, vec_capacity}
use Rattle.std.specs.List.{range_with_len}
use Rattle.let_inbox.specs.declared.inbox.Inbox.{Inbox}
use Rattle.let_inbox.specs.Sources.{others, others_from}
use Rattle.let_inbox.specs.Tokens.{source_of, settled_by, IsPutterOf}
use Rattle.all_to_all.specs.declared.opening.Column.{Column}
use Rattle.all_to_all.specs.declared.post.Post.{Post}
use Rattle.all_to_all.specs.Incoming.{IsIncomingOf}
use Rattle.all_to_all.specs.Outgoing.{AtRank, AreInboxes}
use Rattle.all_to_all.specs.Posts.{state_of, PostState, KeepsSources, FitsInboxes}

module _ {M : Type 0} where
  -- the putters of the inbox of a rank
  pub record IsColumnOf (ranks : ℕ) (inboxes : List (Inbox M)) (c : Column M) : Type 0 where
    pub within : c.target < length inboxes
    pub putters : AtRank inboxes c.target (λ i. All (IsPutterOf i) c.putters.items)
    pub sources : map source_of c.putters.items ≡ others c.target ranks

  -- a post that was handed the putters for the ranks from one on
  abbrev pub state_from : ℕ → ℕ → ℕ → PostState M
  state_from ranks first rank = record {
    rank = rank;
    unsent = others_from rank first (ranks - first);
    sent = [];
    received = [];
    settled = [];
  }

  module _ (source target : M → ℕ) (has_terms : M → Type 0) where
    -- a post that was handed no putter yet
    pub record IsUnused (ranks : ℕ) (inboxes : List (Inbox M)) (p : Post M) : Type 0 where
      pub within : p.rank < length inboxes
      pub incoming : AtRank inboxes p.rank (λ i. IsIncomingOf source target has_terms i p.incoming)
      pub sources : KeepsSources source p
      pub unsent : p.outgoing.unsent.items ≡ []
      pub tokens : p.outgoing.tokens.items ≡ []
      pub received : p.incoming.parcels.items ≡ []
      pub settled : settled_by p.incoming.taker ≡ []
      pub room : ranks ≤ vec_capacity p.outgoing.tokens

    -- the inboxes of the ranks below one are open
    pub record IsOpenTo (below ranks : ℕ) (inboxes : List (Inbox M)) (posts : List (Post M)) (columns : List (Column M)) : Type 0 where
      pub count : length inboxes ≡ below
      pub are : AreInboxes ranks inboxes
      pub posts_fit : All (IsUnused ranks inboxes) posts
      pub posts_are : map (λ p. p.rank) posts ≡ range_with_len 0 below
      pub columns_fit : All (IsColumnOf ranks inboxes) columns
      pub columns_are : map (λ c. c.target) columns ≡ range_with_len 0 below

    -- the putters for the ranks from one on are handed out
    pub record IsHandedOut (first : ℕ) (inboxes : List (Inbox M)) (posts : List (Post M)) : Type 0 where
      pub count : length posts ≡ length inboxes
      pub fit : All (FitsInboxes source target has_terms (length inboxes) inboxes) posts
      pub room : All (λ p. (p.outgoing.tokens.items ≡ []) × (length inboxes ≤ vec_capacity p.outgoing.tokens)) posts
      pub are : (rank : ℕ) (d : Post M) → rank < length inboxes → state_of (slice_index_or posts rank d) ≡ state_from (length inboxes) first rank
