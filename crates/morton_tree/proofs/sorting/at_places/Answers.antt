use Rattle.std.proofs.Common.{◌∙◌}
use Rattle.morton_tree.proofs.SortingLemmas.{read_more}
use Rattle.morton_tree.proofs.sorting.at_places.Goals as goal

pub loop-one-preserved : goal.loop-one-preserved
loop-one-preserved c =
    c.in_ok-push.ensures.items
    ∙ read_more c.args.bodies.now c.args.placed.now c.loop-one.one-index _ c.index-bodies-one.result c.loop-one.sorted.items c.loop-one-test.true (c.requires c.loop-one.one-index _ c.loop-one-test.true) c.index-bodies-one.is c.loop-one.invariant
