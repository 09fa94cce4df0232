use Rattle.std.proofs.Common.{◌≡◌, take, map}
use Rattle.rank_step.specs.Ranks.{held_now}
use Rattle.rank_step.proofs.held_now.held_now.Given as goal

abbrev pub invariant-loop-state : goal.invariant-loop-state
invariant-loop-state l = l.after.items ≡ map (held_now l.now) (take l.state-index l.ranks)
