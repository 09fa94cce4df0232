use Rattle.std.proofs.Common.{arith}
use Rattle.group_lists.proofs.MergeLemmas.{merged_all}
use Rattle.group_lists.proofs.merging.merge.Goals as goal

pub returns : goal.returns
returns c =
    merged_all c.args.pieces.now c.args.entries.now c.loop-from.from c.loop-from.at c.loop-from.list.items c.loop-from.invariant
    (let done = c.loop-from-test.false in omega arith)
