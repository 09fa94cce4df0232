use Rattle.std.proofs.Common.{◌≡◌, ◌++◌, ℕ, length, map}
use Rattle.all_to_all.specs.Handed.{tokens_at}
use Rattle.all_to_all.proofs.Delivery.{tokens_for_rank}
use Rattle.all_to_all.proofs.post.Post.hand_over.Given as goal

abbrev pub invariant-loop-target : goal.invariant-loop-target
invariant-loop-target g l = record {
  count : length l.lists ≡ length l.initial.lists;
  delivered : (rank : ℕ) → tokens_at (map (λ v. v.items) l.lists) rank ≡ tokens_at (map (λ v. v.items) l.initial.lists) rank ++ tokens_for_rank rank l.yielded;
}
