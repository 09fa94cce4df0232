use Rattle.std.proofs.Common.{◌≡◌, ◌%◌, take, map, nat_eq}
use Rattle.std.specs.List.{enumerate_from, filter}
use Rattle.rank_step.proofs.first_ranks.every.Given as goal

abbrev pub invariant-loop-place : goal.invariant-loop-place
invariant-loop-place l = l.own.items ≡ map (λ n. n.1) (filter (λ n. nat_eq (n.0 % l.count) l.rest) (take l.place (enumerate_from 0 l.bodies)))
