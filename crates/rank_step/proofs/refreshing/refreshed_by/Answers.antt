use Rattle.rank_step.proofs.refreshing.refreshed_by.Goals as goal

pub returns-clause-kept : goal.returns-clause-kept
returns-clause-kept g c limit kept = c.refresh_all.ensures.kept limit kept.0 kept.1
