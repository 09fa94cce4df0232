use Rattle.std.proofs.Common.{◌∙◌, ◌+◌, ap, pos, length}
use Rattle.pf_num.specs.Exact.{exact}
use Rattle.kern_range.proofs.ProductLemmas.{times_one}
use Rattle.kern_range.proofs.bodies.count.Goals as goal

pub returns : goal.returns
returns c = c.times_count.ensures ∙ ap exact (times_one (pos (length c.args.others.now + 1)))
