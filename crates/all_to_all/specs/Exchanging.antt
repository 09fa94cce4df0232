-- Where each rank sends one parcel to each other: what their posts are from phase to phase.
use Rattle.std.specs.Prelude.{◌≡◌, ℕ, ◌<◌, List, [], length, map, slice_index_or, Vec}
use Rattle.std.specs.Global.{Global}
use Rattle.let_inbox.specs.declared.inbox.Inbox.{Inbox}
use Rattle.let_inbox.specs.declared.tokens.Spent.{Spent}
use Rattle.let_inbox.specs.Sources.{others}
use Rattle.all_to_all.specs.declared.post.Post.{Post}
use Rattle.all_to_all.specs.Handed.{AreTokensFor, all_carried}
use Rattle.all_to_all.specs.Posts.{state_of, fresh_state, IsPostOf}

-- this holds of what stands at each rank
abbrev pub EachByRank : {X : Type 0} → (ℕ → X → Type 0) → List X → Type 0
EachByRank P xs = (rank : ℕ) (x : _) → rank < length xs → P rank (slice_index_or xs rank x)

module _ {M : Type 0} (source target : M → ℕ) (has_terms : M → Type 0) where
  -- the post of a rank that has sent and received nothing
  pub record IsFresh (inboxes : List (Inbox M)) (rank : ℕ) (p : Post M) : Type 0 where
    pub of_inboxes : IsPostOf source target has_terms inboxes p
    pub fresh : state_of p ≡ fresh_state rank (length inboxes)

  -- the parcel that a rank sends another
  module _ (parcel : ℕ → ℕ → M) where
    -- the post of a rank that has sent each other rank its parcel
    pub record HasSent (inboxes : List (Inbox M)) (rank : ℕ) (p : Post M) : Type 0 where
      pub of_inboxes : IsPostOf source target has_terms inboxes p
      pub number : (state_of p).rank ≡ rank
      pub unsent : (state_of p).unsent ≡ []
      pub sent : (state_of p).sent ≡ map (parcel rank) (others rank (length inboxes))
      pub settled : (state_of p).settled ≡ []

    -- so each rank, and each parcel is for the rank to which it was sent
    pub record HaveAllSent (inboxes : List (Inbox M)) (posts : List (Post M)) : Type 0 where
      pub targets : (q p : ℕ) → target (parcel q p) ≡ p
      pub each : EachByRank (HasSent inboxes) posts

    -- the post of a rank, and the tokens of the parcels that were sent to it
    pub record CanSettle (inboxes : List (Inbox M)) (rank : ℕ) (p : Post M) (tokens : List (Spent M)) : Type 0 where
      pub of_inboxes : IsPostOf source target has_terms inboxes p
      pub number : (state_of p).rank ≡ rank
      pub settled : (state_of p).settled ≡ []
      pub tokens_are : AreTokensFor source inboxes rank tokens
      pub carried : all_carried tokens ≡ map (λ src. parcel src rank) (others rank (length inboxes))

    -- so each rank
    pub record CanAllSettle (inboxes : List (Inbox M)) (posts : List (Post M)) (tokens : List (Vec (Spent M) Global))
        : Type 0 where
      pub each : (rank : ℕ) (p : Post M) (s : Vec (Spent M) Global) → rank < length posts →
          CanSettle inboxes rank (slice_index_or posts rank p) (slice_index_or tokens rank s).items

  -- each rank has sent each other some parcel
  abbrev pub HaveSentParcels : List (Inbox M) → List (Post M) → Type 0
  HaveSentParcels inboxes posts = (parcel : ℕ → ℕ → M) × HaveAllSent parcel inboxes posts

  -- whatever parcels they have sent, these posts can be settled with these tokens
  abbrev pub CanSettleParcels :
      List (Inbox M) → List (Post M) → List (Post M) → List (Vec (Spent M) Global) → Type 0
  CanSettleParcels inboxes before after tokens =
      (parcel : ℕ → ℕ → M) → HaveAllSent parcel inboxes before → CanAllSettle parcel inboxes after tokens
