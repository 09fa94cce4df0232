use Rattle.rank_step.proofs.build.build.Given as goal

abbrev pub ghosts-build_by : goal.ghosts-build_by
ghosts-build_by g a = record {
  particles = a.build.bodies.now;
  are_bodies = a.build.are_bodies;
  within_limits = a.build.within_limits;
  grid = a.build.grid;
  is_division = a.build.is_division;
  theta = a.build.theta;
  is_criterion = a.build.is_criterion;
}
