use Rattle.bench_input.specs.declared.deck.TheConstants.{STEPS}
use Rattle.top_call.proofs.bench.bench_world.Goals as goal

pub returns-clause-stands : goal.returns-clause-stands
returns-clause-stands c = rw (c.in_ok-particles.ensures.value, c.grid.ensures, c.theta.ensures) at (c.open.ensures.stands STEPS)
