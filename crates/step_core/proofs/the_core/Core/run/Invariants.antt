use Rattle.std.proofs.Common.{◌≡◌, drop}
use Rattle.step_core.specs.Core.{start, are_legal, after_all}
use Rattle.step_core.proofs.the_core.Core.run.Given as goal

abbrev pub invariant-loop-event : goal.invariant-loop-event
invariant-loop-event l = record {
  settings : l.core.settings ≡ l.fn.s;
  legal : are_legal l.fn.s (start l.fn.s) l.events ≡ are_legal l.fn.s l.core.state (drop l.event-index l.events);
  leaves : after_all (start l.fn.s) l.events ≡ after_all l.core.state (drop l.event-index l.events);
}
