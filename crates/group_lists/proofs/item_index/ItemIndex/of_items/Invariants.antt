use Rattle.group_lists.proofs.IndexLemmas.{AreIdsUpTo}
use Rattle.group_lists.proofs.item_index.ItemIndex.of_items.Given as goal

abbrev pub invariant-loop-place : goal.invariant-loop-place
invariant-loop-place l = AreIdsUpTo l.items l.place l.ids.items
