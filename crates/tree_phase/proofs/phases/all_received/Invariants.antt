use Rattle.std.proofs.Common.{◌≡◌, length, map}
use Rattle.std.specs.List.{zip}
use Rattle.tree_phase.specs.Exchange.{received}
use Rattle.tree_phase.proofs.phases.all_received.Given as goal

abbrev pub invariant-loop-receiver : goal.invariant-loop-receiver
invariant-loop-receiver g l = (map received (zip l.gathers.items l.arrivals.items) ≡ l.yielded) × (length l.gathers.items ≡ length l.arrivals.items)
