-- Parcels that have come for a rank, and the tokens that tell of them.
use Rattle.std.specs.Prelude.{◌≡◌, ℕ, List, [], ◌++◌, map, nat_eq, All}
use Rattle.std.specs.List.{IsDistinct}
use Rattle.crossbeam_queue.specs.Passes.{view}
use Rattle.let_inbox.specs.declared.inbox.Inbox.{Inbox}
use Rattle.let_inbox.specs.declared.tokens.Spent.{Spent}
use Rattle.let_inbox.specs.declared.tokens.Taker.{Taker}
use Rattle.let_inbox.specs.Sources.{IsSource, others}
use Rattle.let_inbox.specs.Rule.{Found}
use Rattle.let_inbox.specs.Tokens.{rank_of, ranks_of, spent_source, taken_by, IsSpentOf}

module _ {M : Type 0} where
  -- more may have come, after what was there
  abbrev pub Extends : List M → List M → Type 0
  Extends before after = (more : List M) × (after ≡ before ++ more)

  module _ (source : M → ℕ) where
    -- the tokens of all that was put into an inbox, by source
    pub record AreTokensOf (i : Inbox M) (tokens : List (Spent M)) : Type 0 where
      pub of_inbox : All (IsSpentOf source i) tokens
      pub sources : map spent_source tokens ≡ others (rank_of i) (ranks_of i)

  module _ (source target : M → ℕ) (has_terms : M → Type 0) where
    -- each is for this rank, with the terms of its type, and from another rank; from each rank at most one has come
    pub record HaveCome (rank ranks : ℕ) (parcels : List M) : Type 0 where
      pub fits : All (λ m. (target m ≡ rank) × has_terms m) parcels
      pub known : All (λ m. IsSource rank ranks (source m)) parcels
      pub once : IsDistinct nat_eq (map source parcels)

    -- at a moment, nothing lay in the inbox from which these were taken
    pub record NothingLay (parcels : List M) : Type 0 where
      pub taker : Taker M
      pub taken : taken_by taker ≡ parcels
      pub found : Found source target has_terms (view taker.pass) []
