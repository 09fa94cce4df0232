use Rattle.std.specs.Vec.Iter.{into_iter_items}
use Rattle.all_to_all.proofs.Handing.{HandsOut}
use Rattle.all_to_all.proofs.opening.Opening.hand_out.Given as goal

abbrev pub invariant-loop-post : goal.invariant-loop-post
invariant-loop-post g l = HandsOut g.M.Named.source g.M.Named.target g.M.Named.has_terms l.target l.post-index l.fn.self.inboxes.items l.post-items (into_iter_items l.putters)
