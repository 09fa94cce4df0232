use Rattle.std.proofs.Common.{◌≡◌, drop, map, fold}
use Rattle.std.specs.Int.{int_min, int_max}
use Rattle.kern_range.specs.Bodies.{of_particles, number_of_particle}
use Rattle.kern_range.proofs.bodies.of_particles.Given as goal

abbrev pub invariant-loop-body : goal.invariant-loop-body
invariant-loop-body l = record {
  least : fold int_min l.all.least (map (number_of_particle l.of) (drop l.body-index l.others)) ≡ (of_particles l.first l.others l.of).least;
  greatest : fold int_max l.all.greatest (map (number_of_particle l.of) (drop l.body-index l.others)) ≡ (of_particles l.first l.others l.of).greatest;
}
