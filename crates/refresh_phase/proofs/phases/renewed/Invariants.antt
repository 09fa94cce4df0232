use Rattle.refresh_phase.specs.Phases.{AreRenewed}
use Rattle.refresh_phase.proofs.phases.renewed.Given as goal

abbrev pub invariant-loop-renewer : goal.invariant-loop-renewer
invariant-loop-renewer l = AreRenewed l.yielded l.ranks.items l.all.items
