use Rattle.exchange_phase.proofs.Leave.{one_more_part}
use Rattle.exchange_phase.proofs.leaving.parted.Goals as goal

pub loop-leaver-preserved : goal.loop-leaver-preserved
loop-leaver-preserved c =
    one_more_part c.loop-leaver.yielded c.in-Some.leaver c.loop-leaver.states.items c.push.new.self.items c.loop-leaver.posts.items c.push-in-loop-leaver.new.self.items c.loop-leaver.invariant
    c.if-refused.false c.in_ok-push.ensures.items c.in_ok-push-2.ensures.items
