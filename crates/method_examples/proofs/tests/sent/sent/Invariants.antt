use Rattle.method_examples.proofs.tests.sent.sent.Given as goal

abbrev pub ghosts-sent_in-L-Ledger : goal.ghosts-sent_in-L-Ledger
ghosts-sent_in-L-Ledger g a = record { name = a.blank.name; parts = a.blank.parts }

abbrev pub ghosts-sent_in-T-Terms : goal.ghosts-sent_in-T-Terms
ghosts-sent_in-T-Terms g a = record {
  particles = a.build.now.bodies.now;
  are_bodies = a.build.now.are_bodies;
  within_limits = a.build.now.within_limits;
  grid = a.build.now.grid;
  is_division = a.build.now.is_division;
  theta = a.build.now.theta;
  is_criterion = a.build.now.is_criterion;
}
