use Rattle.group_lists.proofs.PlacedLemmas.{AreFirst}
use Rattle.group_lists.proofs.key_order.key_order.Given as goal

abbrev pub invariant-loop-place : goal.invariant-loop-place
invariant-loop-place l = AreFirst l.items l.place l.order.items
