use Rattle.list_bench.proofs.counts.counts_of.Given as goal

abbrev pub ghosts-lists_of-L-Ledger : goal.ghosts-lists_of-L-Ledger
ghosts-lists_of-L-Ledger g a = record { name = a.blank.name; parts = a.blank.parts }

abbrev pub ghosts-lists_of-T-Terms : goal.ghosts-lists_of-T-Terms
ghosts-lists_of-T-Terms g a = record {
  particles = a.build.bodies.now;
  are_bodies = a.build.are_bodies;
  within_limits = a.build.within_limits;
  grid = a.build.grid;
  is_division = a.build.is_division;
  theta = a.build.theta;
  is_criterion = a.build.is_criterion;
}
