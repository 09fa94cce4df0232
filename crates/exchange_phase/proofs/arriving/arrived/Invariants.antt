use Rattle.std.proofs.Common.{◌≡◌, Some, map}
use Rattle.exchange_phase.proofs.arriving.arrived.Given as goal

abbrev pub invariant-loop-arriver : goal.invariant-loop-arriver
invariant-loop-arriver l = map (λ a. a.after) l.yielded ≡ map Some l.ranks.items
