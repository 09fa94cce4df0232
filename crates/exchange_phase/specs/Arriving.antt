-- The phase Settle.
use Rattle.std.specs.Prelude.{◌≡◌, ℕ, ◌<◌, Some, None, List, [], Vec, length, slice_index_or, IfSome, IsPermutation}
use Rattle.std.specs.Global.{Global}
use Rattle.pf_model.specs.Particles.{AreBodies}
use Rattle.let_inbox.specs.declared.inbox.Inbox.{Inbox}
use Rattle.let_inbox.specs.declared.tokens.Spent.{Spent}
use Rattle.exchange.specs.States.{Holding, Package, joined, settled}
use Rattle.all_to_all.specs.declared.post.Post.{Post}
use Rattle.all_to_all.specs.Handed.{all_carried}
use Rattle.all_to_all.specs.Posts.{state_of}
use Rattle.exchange_phase.specs.declared.arriving.Due.{Due}
use Rattle.exchange_phase.specs.declared.arriving.Arriver.{Arriver}
use Rattle.exchange_phase.specs.Packages.{IsPost, AreTokens}

abbrev pub due_of : (Holding × Post Package) × Vec (Spent Package) Global → Due
due_of t = record { state = t.0.0; post = t.0.1; tokens = t.1 }

-- a rank before it settles
abbrev pub arriver_of : (Holding × Post Package) × Vec (Spent Package) Global → Arriver
arriver_of t = record { due = Some (due_of t); after = None }

-- the tokens are those of all that was put for the rank, and with it the rank has distinct bodies
pub record CanSettle (inboxes : List (Inbox Package)) (d : Due) : Type 0 where
  pub post : IsPost inboxes d.post
  pub unsettled : (state_of d.post).settled ≡ []
  pub tokens : AreTokens inboxes (state_of d.post).rank d.tokens.items
  pub bodies : (parcels : List Package) → IsPermutation (all_carried d.tokens.items) parcels → AreBodies (joined d.state.bodies parcels)

-- what has come is, in some order, what the tokens carry
pub record IsSettledFrom (d : Due) (after : Holding) : Type 0 where
  pub parcels : List Package
  pub come : IsPermutation (all_carried d.tokens.items) parcels
  pub after_is : after ≡ settled d.state parcels

-- where a rank found memory, it has settled
abbrev pub HasSettled : Arriver → Arriver → Type 0
HasSettled before after = IfSome before.due (λ d. IfSome after.after (IsSettledFrom d))

-- so for each rank
pub record HaveSettled (before after : List Arriver) : Type 0 where
  pub all : length after ≡ length before
  pub each : (i : ℕ) (a : Arriver) → i < length before → HasSettled (slice_index_or before i a) (slice_index_or after i a)

-- all have settled
pub record AreSettledFrom (dues : List Due) (after : List Holding) : Type 0 where
  pub all : length after ≡ length dues
  pub each : (i : ℕ) (d : Due) (h : Holding) → i < length dues → IsSettledFrom (slice_index_or dues i d) (slice_index_or after i h)
