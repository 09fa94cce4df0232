use Rattle.let_inbox.proofs.inbox.Inbox.open.Given as goal

abbrev pub ghosts-open_pass : goal.ghosts-open_pass
ghosts-open_pass g a = record { rank = a.dst; ranks = a.ranks }
