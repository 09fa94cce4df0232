use Rattle.tree_phase.proofs.gathering.received.Given as goal

abbrev pub ghosts-absorb_trees : goal.ghosts-absorb_trees
ghosts-absorb_trees g a = record { name = a.blank.name; parts = a.blank.parts }
