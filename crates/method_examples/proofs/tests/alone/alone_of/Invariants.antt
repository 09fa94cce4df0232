use Rattle.method_examples.proofs.tests.alone.alone_of.Given as goal

abbrev pub ghosts-alone_in-L-Ledger : goal.ghosts-alone_in-L-Ledger
ghosts-alone_in-L-Ledger g a = record { name = a.blank.name; parts = a.blank.parts }

abbrev pub ghosts-alone_in-T-Terms : goal.ghosts-alone_in-T-Terms
ghosts-alone_in-T-Terms g a = record {
  particles = a.build.bodies.now;
  are_bodies = a.build.are_bodies;
  within_limits = a.build.within_limits;
  grid = a.build.grid;
  is_division = a.build.is_division;
  theta = a.build.theta;
  is_criterion = a.build.is_criterion;
}
