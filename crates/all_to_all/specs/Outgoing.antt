-- What a rank holds of the other ranks' inboxes.
use Rattle.std.specs.Prelude.{◌≡◌, ℕ, ◌+◌, ◌<◌, ◌≤◌, List, [], ◌∷◌, map, reverse, flat_map, slice_get, Some, All, vec_len, vec_capacity}
use Rattle.let_inbox.specs.declared.inbox.Inbox.{Inbox}
use Rattle.let_inbox.specs.Tokens.{rank_of, ranks_of, source_of, carried, spent_source, IsPutterOf, IsSpentOf}
use Rattle.all_to_all.specs.declared.outgoing.Outgoing.{Outgoing}
use Rattle.all_to_all.specs.declared.outgoing.ToSend.{ToSend}
use Rattle.all_to_all.specs.declared.outgoing.Token.{Token}

module _ {M : Type 0} where
  -- the fact holds of the inbox of that rank
  abbrev pub AtRank : List (Inbox M) → ℕ → (Inbox M → Type 0) → Type 0
  AtRank inboxes rank P = (i : Inbox M) → slice_get inboxes rank ≡ Some i → P i

  -- the inboxes of ranks, by rank
  pub record AreInboxes (ranks : ℕ) (inboxes : List (Inbox M)) : Type 0 where
    pub place : (rank : ℕ) → AtRank inboxes rank (λ i. (rank_of i ≡ rank) × (ranks_of i ≡ ranks))

  -- the ranks for which nothing was put yet
  abbrev pub unsent_of : Outgoing M → List ℕ
  unsent_of o = reverse (map (λ s. s.target) o.unsent.items)

  -- the parcels that the tokens carry
  abbrev pub sent_of : Outgoing M → List M
  sent_of o = flat_map (λ t. carried t.spent) o.tokens.items

  -- the putter of a rank for the inbox of its target
  pub record IsPutterFrom (inboxes : List (Inbox M)) (rank : ℕ) (s : ToSend M) : Type 0 where
    pub putter : AtRank inboxes s.target (λ i. IsPutterOf i s.putter)
    pub from_rank : source_of s.putter ≡ rank

  module _ (source target : M → ℕ) where
    -- the token of a rank, of the inbox of its target
    pub record IsTokenFrom (inboxes : List (Inbox M)) (rank : ℕ) (t : Token M) : Type 0 where
      pub spent : AtRank inboxes t.target (λ i. IsSpentOf source i t.spent)
      pub from_rank : spent_source t.spent ≡ rank
      pub for_target : map target (carried t.spent) ≡ t.target ∷ []

    -- a rank's putters and tokens, with room for a token in place of each putter
    pub record IsOutgoingOf (ranks : ℕ) (inboxes : List (Inbox M)) (rank : ℕ) (o : Outgoing M) : Type 0 where
      pub inboxes_are : AreInboxes ranks inboxes
      pub within : All (λ s. s.target < ranks) o.unsent.items
      pub putters : All (IsPutterFrom inboxes rank) o.unsent.items
      pub tokens : All (IsTokenFrom inboxes rank) o.tokens.items
      pub room : vec_len o.unsent + vec_len o.tokens ≤ vec_capacity o.tokens
