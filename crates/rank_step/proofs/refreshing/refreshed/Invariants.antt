use Rattle.rank_step.proofs.refreshing.refreshed.Given as goal

abbrev pub ghosts-refreshed_by : goal.ghosts-refreshed_by
ghosts-refreshed_by g a = record {
  particles = a._build.bodies.now;
  are_bodies = a._build.are_bodies;
  within_limits = a._build.within_limits;
  grid = a._build.grid;
  is_division = a._build.is_division;
  theta = a._build.theta;
  is_criterion = a._build.is_criterion;
}
