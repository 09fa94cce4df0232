use Rattle.method_examples.proofs.tests.terms.count.Given as goal

abbrev pub ghosts-count_in : goal.ghosts-count_in
ghosts-count_in a = record {
  particles = a.build.bodies.now;
  are_bodies = a.build.are_bodies;
  within_limits = a.build.within_limits;
  grid = a.build.grid;
  is_division = a.build.is_division;
  theta = a.build.theta;
  is_criterion = a.build.is_criterion;
}
