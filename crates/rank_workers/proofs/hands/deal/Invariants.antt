use Rattle.std.proofs.Common.{map}
use Rattle.rank_workers.specs.Hands.{AreDealt}
use Rattle.rank_workers.proofs.hands.deal.Given as goal

abbrev pub invariant-loop-rank : goal.invariant-loop-rank
invariant-loop-rank g l = AreDealt l.workers (map (λ p. p.1) l.yielded) l.hands.items
