use Rattle.std.proofs.Common.{arith}
use Rattle.pf_model.specs.Sums.{moment_of}
use Rattle.force_phase.proofs.partner.as_partner.Goals as goal

pub item-requires-in-One : goal.item-requires-in-One
unfolding moment_of
item-requires-in-One c = rw c.of_one.ensures (omega arith)
