use Rattle.refresh_phase.proofs.kept_rank.KeptRank.renew.Given as goal

abbrev pub ghost-refresh : goal.ghost-refresh
ghost-refresh g a = g.m
