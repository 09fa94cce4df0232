use Rattle.refresh_phase.proofs.phases.open_all.Goals as goal

pub returns-clause-posts : goal.returns-clause-posts
returns-clause-posts c = c.in_ok-inboxes.ensures.posts

pub returns-clause-fresh : goal.returns-clause-fresh
returns-clause-fresh c = c.in_ok-inboxes.ensures.each
