use Rattle.std.proofs.Common.{◌≡◌, ◌*◌, ◌≤◌, ◌^◌}
use Rattle.rank_step.specs.World.{StandsFor}
use Rattle.top_call.specs.Run.{step_count}
use Rattle.top_call.specs.Steps.{tally_before}
use Rattle.top_call.proofs.bench.tallied.Given as goal

abbrev pub ghost-tally_step : goal.ghost-tally_step
ghost-tally_step g a = g.run

abbrev pub invariant-loop-step : goal.invariant-loop-step
invariant-loop-step g l = record {
  due : l.world.due ≡ l.step;
  stands : StandsFor l.world g.run;
  within : l.step ≤ step_count g.run;
  tallied : l.tally ≡ tally_before g.run l.step;
  room : l.tally.bytes ≤ l.step * 2 ^ 64;
}
