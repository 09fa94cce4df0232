use Rattle.std.proofs.Common.{◌≡◌, [], map}
use Rattle.std.specs.List.{range_with_len}
use Rattle.exchange.proofs.leaving.one_for_each_rank.Given as goal

abbrev pub invariant-loop-dst : goal.invariant-loop-dst
invariant-loop-dst l = l.parcels.items ≡ map (λ dst. record { src = l.rank; dst = dst; bodies = [] }) (range_with_len 0 l.dst)
