use Rattle.std.proofs.Common.{◌+◌, ◌∙◌}
use Rattle.group_lists.proofs.KeyedLemmas.{together_more, sums_more, count_more}
use Rattle.group_lists.proofs.keyed_tree.sums_of.Goals as goal

pub merge-so_far-requires : goal.merge-so_far-requires
merge-so_far-requires c =
    count_more c.moments_join_in_any_order.ensures c.entries_join_their_moments.ensures c.args.items.now c.loop-item.item-index c.item-item.result c.loop-item.so_far c.entry_moment.result c.loop-item-test.true c.item-item.is c.loop-item.invariant.1 c.entry_moment.ensures c.requires

pub loop-item-preserved : goal.loop-item-preserved
loop-item-preserved c =
    let i = c.loop-item.item-index in
    let items = c.args.items.now in
    let sum = c.merge-so_far.ensures ∙ together_more c.moments_join_in_any_order.ensures items i c.item-item.result c.loop-item.so_far c.entry_moment.result c.loop-item-test.true c.item-item.is c.loop-item.invariant.1 c.entry_moment.ensures in
    (c.in_ok-push-2.ensures.items ∙ sums_more items (i + 1) c.loop-item.sums.items c.merge-so_far.result c.loop-item.invariant.0 sum, sum)
