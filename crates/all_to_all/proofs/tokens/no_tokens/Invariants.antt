use Rattle.std.proofs.Common.{◌≡◌, [], length, All}
use Rattle.all_to_all.proofs.tokens.no_tokens.Given as goal

abbrev pub invariant-loop-inbox : goal.invariant-loop-inbox
invariant-loop-inbox g l = record {
  count : length l.lists.items ≡ l._inbox-index;
  empty : All (λ v. v.items ≡ []) l.lists.items;
}
