use Rattle.std.proofs.Common.{◌≡◌, map}
use Rattle.std.specs.List.{range_with_len}
use Rattle.rank_step.specs.Ranks.{dealt_to}
use Rattle.rank_step.proofs.first_ranks.first_ranks.Given as goal

abbrev pub invariant-loop-rank : goal.invariant-loop-rank
invariant-loop-rank l = l.ranks.items ≡ map (λ rank. record { rank = rank; bodies = dealt_to l.count l.bodies rank }) (range_with_len 0 l.rank)
