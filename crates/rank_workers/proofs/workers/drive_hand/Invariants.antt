use Rattle.std.proofs.Common.{◌≡◌, ℕ, ◌+◌, ◌*◌, ◌<◌, ◌≤◌, length, get_or}
use Rattle.std.specs.Fork.{ChangesAt}
use Rattle.rank_workers.proofs.workers.drive_hand.Given as goal

abbrev pub invariant-loop-place : goal.invariant-loop-place
invariant-loop-place g l = record {
  len : length l.hand.items ≡ length l.initial.hand.items;
  past : (k : ℕ) (x : g.row.X.Denot) → k < l.place → ChangesAt g.F.Fn l.f (k * l.workers + l.worker) (get_or l.initial.hand.items k x) (get_or l.hand.items k x);
  rest : (k : ℕ) (x : g.row.X.Denot) → l.place ≤ k → get_or l.hand.items k x ≡ get_or l.initial.hand.items k x;
}
