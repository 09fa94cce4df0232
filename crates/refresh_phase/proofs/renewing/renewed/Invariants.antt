use Rattle.refresh_phase.proofs.renewing.renewed.Given as goal

abbrev pub ghost-renew : goal.ghost-renew
ghost-renew g a = g.m
