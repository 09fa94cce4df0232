-- The phase Leave.
use Rattle.std.specs.Prelude.{◌≡◌, ℕ, ◌<◌, false, List, [], length, map, slice_index_or, All}
use Rattle.pf_model.specs.Division.{rank_count}
use Rattle.pf_model.specs.Domains.{Multisection}
use Rattle.let_inbox.specs.declared.inbox.Inbox.{Inbox}
use Rattle.exchange.specs.States.{Holding, Package, left_with, parcels_from}
use Rattle.all_to_all.specs.declared.post.Post.{Post}
use Rattle.all_to_all.specs.Posts.{state_of, fresh_state}
use Rattle.exchange_phase.specs.declared.leaving.Leaver.{Leaver}
use Rattle.exchange_phase.specs.Packages.{IsPost, ArePosts}

-- a rank before it leaves, and its post
abbrev pub leaver_of : Holding × Post Package → Leaver
leaver_of pair = record { state = pair.0; post = pair.1; refused = false }

-- its post is fresh
pub record CanLeave (s : Multisection) (inboxes : List (Inbox Package)) (l : Leaver) : Type 0 where
  pub count : length inboxes ≡ rank_count s.grid
  pub post : IsPost inboxes l.post
  pub fresh : state_of l.post ≡ fresh_state l.state.rank (length inboxes)

-- where it found memory, it has what it owns, and put its parcels
pub record IsGone (s : Multisection) (inboxes : List (Inbox Package)) (before : Holding) (state : Holding) (post : Post Package) : Type 0 where
  pub left : state ≡ left_with s before
  pub post_is : IsPost inboxes post
  pub rank : (state_of post).rank ≡ before.rank
  pub sent : (state_of post).sent ≡ parcels_from s before
  pub none_left : (state_of post).unsent ≡ []
  pub unsettled : (state_of post).settled ≡ []

abbrev pub HasLeft : Multisection → List (Inbox Package) → Leaver → Leaver → Type 0
HasLeft s inboxes before after = after.refused ≡ false → IsGone s inboxes before.state after.state after.post

-- so for each rank
pub record HaveLeft (s : Multisection) (inboxes : List (Inbox Package)) (before after : List Leaver) : Type 0 where
  pub all : length after ≡ length before
  pub each : (i : ℕ) (l : Leaver) → i < length before → HasLeft s inboxes (slice_index_or before i l) (slice_index_or after i l)

-- each of them found memory, and has this state and this post
pub record ArePartsOf (leavers : List Leaver) (states : List Holding) (posts : List (Post Package)) : Type 0 where
  pub found : All (λ l. l.refused ≡ false) leavers
  pub states_are : states ≡ map (λ l. l.state) leavers
  pub posts_are : posts ≡ map (λ l. l.post) leavers

-- ranks have put their parcels, and none is settled
pub record HaveSent (s : Multisection) (inboxes : List (Inbox Package)) (before : List Holding) (posts : List (Post Package)) : Type 0 where
  pub posts_are : ArePosts inboxes posts
  pub sent : map (λ p. (state_of p).sent) posts ≡ map (parcels_from s) before
  pub none_left : All (λ p. (state_of p).unsent ≡ []) posts
  pub unsettled : All (λ p. (state_of p).settled ≡ []) posts
