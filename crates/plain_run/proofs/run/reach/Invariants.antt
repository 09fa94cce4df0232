use Rattle.plain_run.specs.Reaching.{IsReached}
use Rattle.plain_run.proofs.run.reach.Given as goal

abbrev pub invariant-loop-earlier : goal.invariant-loop-earlier
invariant-loop-earlier l = IsReached l.run l.earlier l.reached
