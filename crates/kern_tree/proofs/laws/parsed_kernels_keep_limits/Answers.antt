use Rattle.kern_tree.proofs.LimitLaws.{keep_limits}
use Rattle.kern_tree.proofs.laws.parsed_kernels_keep_limits.Goals as goal

pub returns : goal.returns
returns c = keep_limits c.tokens_stand_in_order.ensures.stand
