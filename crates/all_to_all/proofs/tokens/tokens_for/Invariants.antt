use Rattle.std.proofs.Common.{map}
use Rattle.all_to_all.proofs.Collecting.{HasCollected}
use Rattle.all_to_all.proofs.tokens.tokens_for.Given as goal

abbrev pub invariant-loop-post : goal.invariant-loop-post
invariant-loop-post g l = HasCollected g.M.Named.source g.M.Named.target g.M.Named.has_terms l.inboxes l.fn.posts l.post-index l.posts (map (λ v. v.items) l.lists.items)
