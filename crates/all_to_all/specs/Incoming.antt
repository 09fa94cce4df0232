-- What a rank holds of its own inbox.
use Rattle.std.specs.Prelude.{◌≡◌, ℕ, ◌-◌, ◌<◌, ◌≤◌, vec_capacity}
use Rattle.let_inbox.specs.declared.inbox.Inbox.{Inbox}
use Rattle.let_inbox.specs.Tokens.{rank_of, ranks_of, taken_by, IsTakerOf}
use Rattle.all_to_all.specs.declared.incoming.Incoming.{Incoming}
use Rattle.all_to_all.specs.Arrivals.{HaveCome}

module _ {M : Type 0} (source target : M → ℕ) (has_terms : M → Type 0) where
  -- the taker of this inbox with the parcels that it took, and room for those of all other ranks
  pub record IsIncomingOf (i : Inbox M) (incoming : Incoming M) : Type 0 where
    pub within : rank_of i < ranks_of i
    pub taker : IsTakerOf source i incoming.taker
    pub taken : incoming.parcels.items ≡ taken_by incoming.taker
    pub came : HaveCome source target has_terms (rank_of i) (ranks_of i) incoming.parcels.items
    pub room : ranks_of i - 1 ≤ vec_capacity incoming.parcels
