use Rattle.std.proofs.Common.{◌≡◌}
use Rattle.step_core.specs.Plain.{sites_by}
use Rattle.step_core.proofs.grouping.sites_by.Given as goal

abbrev pub invariant-loop-rank : goal.invariant-loop-rank
invariant-loop-rank l = l.sites.items ≡ sites_by l.limit l.cuts l.bodies l.rank
