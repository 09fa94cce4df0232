use Rattle.tree_phase.proofs.growing.grow.Given as goal

abbrev pub ghosts-send_trees : goal.ghosts-send_trees
ghosts-send_trees g a = record { name = a.blank.name; parts = a.blank.parts }
