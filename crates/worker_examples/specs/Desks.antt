-- What a rank has when it can send its parcels, and when it has sent them.
use Rattle.std.specs.Prelude.{◌≡◌, ℕ, List, [], length, map, All}
use Rattle.let_inbox.specs.declared.inbox.Inbox.{Inbox}
use Rattle.let_inbox.specs.declared.tokens.Spent.{Spent}
use Rattle.let_inbox.specs.Sources.{others}
use Rattle.all_to_all.specs.declared.post.Post.{Post}
use Rattle.all_to_all.specs.Posts.{state_of, fresh_state, IsPostOf}
use Rattle.all_to_all.specs.Handed.{HasSentToAll, AreTokensFor}

module _ {M : Type 0} (source target : M → ℕ) (has_terms : M → Type 0) (inboxes : List (Inbox M)) where
  -- a fresh post, and one parcel of its rank for each other
  pub record CanSend (post : Post M) (parcels : List M) : Type 0 where
    pub of_inboxes : IsPostOf source target has_terms inboxes post
    pub fresh : state_of post ≡ fresh_state (state_of post).rank (length inboxes)
    pub targets : map target parcels ≡ others (state_of post).rank (length inboxes)
    pub sources : All (λ m. source m ≡ (state_of post).rank) parcels
    pub terms : All has_terms parcels

  -- the post put one parcel for each other rank
  pub record HasSent (post : Post M) : Type 0 where
    pub of_inboxes : IsPostOf source target has_terms inboxes post
    pub to_all : HasSentToAll target (length inboxes) post
    pub unsettled : (state_of post).settled ≡ []

  -- the post and the tokens with which it can be settled
  pub record CanSettle (post : Post M) (tokens : List (Spent M)) : Type 0 where
    pub of_inboxes : IsPostOf source target has_terms inboxes post
    pub unsettled : (state_of post).settled ≡ []
    pub tokens_are : AreTokensFor source inboxes (state_of post).rank tokens
