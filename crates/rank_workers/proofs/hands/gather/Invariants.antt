use Rattle.std.proofs.Common.{◌≡◌, ◌≤◌}
use Rattle.std.specs.Vec.{vec_capacity}
use Rattle.rank_workers.proofs.Gathered.{AreBetween}
use Rattle.rank_workers.proofs.hands.gather.Given as goal

abbrev pub invariant-loop-rank : goal.invariant-loop-rank
invariant-loop-rank g l = record {
  room : l.count ≤ vec_capacity l.ranks;
  between : AreBetween l.workers l.count l.rank l.fn.hands.items l.hands.items l.ranks.items;
}
