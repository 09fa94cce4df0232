use Rattle.method_examples.proofs.tests.absorbing.gathered.Given as goal

abbrev pub ghosts-gathered_in-L-Ledger : goal.ghosts-gathered_in-L-Ledger
ghosts-gathered_in-L-Ledger g a = record { name = a.blank.name; parts = a.blank.parts }

abbrev pub ghosts-gathered_in-T-Terms : goal.ghosts-gathered_in-T-Terms
ghosts-gathered_in-T-Terms g a = record {
  particles = a.build.now.bodies.now;
  are_bodies = a.build.now.are_bodies;
  within_limits = a.build.now.within_limits;
  grid = a.build.now.grid;
  is_division = a.build.now.is_division;
  theta = a.build.now.theta;
  is_criterion = a.build.now.is_criterion;
}
