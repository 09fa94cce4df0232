use Rattle.refresh_phase.proofs.MoveLemmas.{renewed}
use Rattle.refresh_phase.proofs.kept_rank.KeptRank.renew.Goals as goal

pub returns : goal.returns
returns g c = renewed g.m _ c.args.self.now c.self.view_is c.refresh.new.self c.refresh.ensures.kept c.refresh.ensures.built c.refresh.ensures.spans
