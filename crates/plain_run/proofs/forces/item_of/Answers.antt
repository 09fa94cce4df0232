use Rattle.std.proofs.Common.{arith}
use Rattle.pf_model.specs.Sums.{moment_of}
use Rattle.plain_run.proofs.forces.item_of.Goals as goal

pub item-requires-in-One : goal.item-requires-in-One
unfolding moment_of
item-requires-in-One c = rw c.of_one.ensures (omega arith)
