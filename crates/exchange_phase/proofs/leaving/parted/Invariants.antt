use Rattle.exchange_phase.specs.Leaving.{ArePartsOf}
use Rattle.exchange_phase.proofs.leaving.parted.Given as goal

abbrev pub invariant-loop-leaver : goal.invariant-loop-leaver
invariant-loop-leaver l = ArePartsOf l.yielded l.states.items l.posts.items
