use Rattle.list_reuse.proofs.renewing.entry_now.Given as goal

abbrev pub ghost-moment_now : goal.ghost-moment_now
ghost-moment_now g a = g.m

abbrev pub ghost-body_now : goal.ghost-body_now
ghost-body_now g a = g.m
