use Rattle.list_reuse.proofs.kept.Kept.refresh.Given as goal

abbrev pub ghost-renew : goal.ghost-renew
ghost-renew g a = g.m
