use Rattle.std.proofs.Common.{◌*ℤ◌}
use Rattle.kern_range.proofs.ProductLemmas.{least_is_first, least_is_second}
use Rattle.kern_range.proofs.product.lesser.Goals as goal

pub returns-then-is_at_most : goal.returns-then-is_at_most
returns-then-is_at_most c =
    least_is_first (c.args.p.left *ℤ c.args.p.right) (c.args.q.left *ℤ c.args.q.right) c.is_at_most.result c.is_at_most.ensures c.if-is_at_most.true

pub returns-else-is_at_most : goal.returns-else-is_at_most
returns-else-is_at_most c =
    least_is_second (c.args.p.left *ℤ c.args.p.right) (c.args.q.left *ℤ c.args.q.right) c.is_at_most.result c.is_at_most.ensures c.if-is_at_most.false
