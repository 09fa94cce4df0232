-- The posts of an exchange of packages, whose type has no terms.
use Rattle.std.specs.Prelude.{ℕ, List, ⊤}
use Rattle.let_inbox.specs.declared.inbox.Inbox.{Inbox}
use Rattle.let_inbox.specs.declared.tokens.Spent.{Spent}
use Rattle.exchange.specs.States.{Package}
use Rattle.all_to_all.specs.declared.post.Post.{Post}
use Rattle.all_to_all.specs.Handed.{AreTokensFor}
use Rattle.all_to_all.specs.Posts.{IsPostOf, ArePostsOf}

abbrev pub src_of : Package → ℕ
src_of p = p.src

abbrev pub dst_of : Package → ℕ
dst_of p = p.dst

-- a post of these inboxes
abbrev pub IsPost : List (Inbox Package) → Post Package → Type 0
IsPost inboxes post = IsPostOf src_of dst_of (λ _. ⊤) inboxes post

-- the posts of all ranks, by rank
abbrev pub ArePosts : List (Inbox Package) → List (Post Package) → Type 0
ArePosts inboxes posts = ArePostsOf src_of dst_of (λ _. ⊤) inboxes posts

-- the tokens of all that was put for a rank
abbrev pub AreTokens : List (Inbox Package) → ℕ → List (Spent Package) → Type 0
AreTokens inboxes rank tokens = AreTokensFor src_of inboxes rank tokens
