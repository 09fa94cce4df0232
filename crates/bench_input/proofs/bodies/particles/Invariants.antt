use Rattle.std.proofs.Common.{◌≡◌, ◌*◌}
use Rattle.bench_input.specs.Generator.{state_after, particles}
use Rattle.bench_input.proofs.bodies.particles.Given as goal

abbrev pub invariant-loop-before : goal.invariant-loop-before
invariant-loop-before l = record {
  made : l.bodies.items ≡ particles l.seed l.before;
  state : l.generator.state ≡ state_after l.seed (3 * l.before);
}
