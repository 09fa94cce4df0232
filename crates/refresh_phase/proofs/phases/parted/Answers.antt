use Rattle.refresh_phase.proofs.RankLemmas.{one_more_part}
use Rattle.refresh_phase.proofs.phases.parted.Goals as goal

pub loop-mover-preserved : goal.loop-mover-preserved
loop-mover-preserved c =
    one_more_part c.loop-mover.yielded c.in-Some.mover c.loop-mover.ranks.items c.push.new.self.items c.loop-mover.posts.items c.push-in-loop-mover.new.self.items c.loop-mover.invariant
    c.if-refused.false c.in_ok-push.ensures.items c.in_ok-push-2.ensures.items
