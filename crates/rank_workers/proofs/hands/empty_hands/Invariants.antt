use Rattle.std.proofs.Common.{◌≡◌, ℕ, [], ◌<◌, length, get_or, Vec, Global}
use Rattle.rank_workers.proofs.hands.empty_hands.Given as goal

abbrev pub invariant-loop-worker : goal.invariant-loop-worker
invariant-loop-worker g l = record {
  len : length l.hands.items ≡ l._worker;
  empty : (w : ℕ) (h : Vec g.row.X.Denot Global) → w < l._worker → (get_or l.hands.items w h).items ≡ [];
}
