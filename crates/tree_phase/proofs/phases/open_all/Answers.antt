use Rattle.tree_phase.proofs.phases.open_all.Goals as goal

pub returns-clause-posts : goal.returns-clause-posts
returns-clause-posts g c = c.in_ok-inboxes.ensures.posts

pub returns-clause-fresh : goal.returns-clause-fresh
returns-clause-fresh g c = c.in_ok-inboxes.ensures.each
