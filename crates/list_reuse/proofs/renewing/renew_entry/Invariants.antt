use Rattle.list_reuse.proofs.renewing.renew_entry.Given as goal

abbrev pub ghost-entry_now : goal.ghost-entry_now
ghost-entry_now g a = g.m
