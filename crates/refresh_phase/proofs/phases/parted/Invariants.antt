use Rattle.refresh_phase.specs.Phases.{AreParted}
use Rattle.refresh_phase.proofs.phases.parted.Given as goal

abbrev pub invariant-loop-mover : goal.invariant-loop-mover
invariant-loop-mover l = AreParted l.yielded l.ranks.items l.posts.items
