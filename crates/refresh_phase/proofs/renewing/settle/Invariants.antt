use Rattle.refresh_phase.specs.Kept.{seen_from}
use Rattle.refresh_phase.proofs.renewing.settle.Given as goal

abbrev pub ghost-renewed : goal.ghost-renewed
ghost-renewed g a = seen_from g.T.Terms.theta g.T.Terms.grid g.T.Terms.particles a.shared.now.bodies.now a.rank
