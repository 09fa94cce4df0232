-- How the tokens of what ranks sent come to the ranks for which it was sent.
use Rattle.std.specs.Prelude.{◌≡◌, ℕ, ◌<◌, ◌==◌, List, [], ◌++◌, length, map, filter, flat_map, slice_index_or, All}
use Rattle.let_inbox.specs.declared.inbox.Inbox.{Inbox}
use Rattle.let_inbox.specs.declared.tokens.Spent.{Spent}
use Rattle.let_inbox.specs.Sources.{others, others_from}
use Rattle.let_inbox.specs.Tokens.{carried, spent_source, IsSpentOf}
use Rattle.all_to_all.specs.declared.post.Post.{Post}
use Rattle.all_to_all.specs.Outgoing.{AtRank}
use Rattle.all_to_all.specs.Posts.{state_of}

module _ {M : Type 0} where
  -- the parcels that tokens carry
  abbrev pub all_carried : List (Spent M) → List M
  all_carried tokens = flat_map carried tokens

  -- the tokens for a rank
  abbrev pub tokens_at : List (List (Spent M)) → ℕ → List (Spent M)
  tokens_at lists rank = slice_index_or lists rank []

  module _ (target : M → ℕ) where
    -- a post has put a parcel for each other rank, by rank, and has the tokens
    pub record HasSentToAll (ranks : ℕ) (p : Post M) : Type 0 where
      pub sent_to : map target (state_of p).sent ≡ others (state_of p).rank ranks
      pub none_left : (state_of p).unsent ≡ []

    -- of what a post sent, what it sent for a rank
    abbrev pub sent_for : ℕ → Post M → List M
    sent_for rank p = filter (λ m. target m == rank) (state_of p).sent

    -- what the tokens for a rank carry, and then what a post sent for it
    abbrev pub with_sent : Post M → List (List (Spent M)) → ℕ → List M
    with_sent p lists rank = all_carried (tokens_at lists rank) ++ sent_for rank p

  module _ (source : M → ℕ) where
    -- the tokens of what the ranks below one put for a rank, by source
    pub record AreTokensBelow (below : ℕ) (inboxes : List (Inbox M)) (rank : ℕ) (tokens : List (Spent M)) : Type 0 where
      pub of_inbox : AtRank inboxes rank (λ i. All (IsSpentOf source i) tokens)
      pub sources : map spent_source tokens ≡ others_from rank 0 below

    -- the tokens of all that was put for a rank
    abbrev pub AreTokensFor : List (Inbox M) → ℕ → List (Spent M) → Type 0
    AreTokensFor inboxes rank tokens = AreTokensBelow (length inboxes) inboxes rank tokens

    -- for each rank there are such tokens
    pub record EachHasTokens (inboxes : List (Inbox M)) (below : ℕ) (lists : List (List (Spent M))) : Type 0 where
      pub all : length lists ≡ length inboxes
      pub each : (rank : ℕ) → rank < length inboxes → AreTokensBelow below inboxes rank (tokens_at lists rank)
