use Rattle.std.proofs.Common.{◌∙◌, sym, ◌*ℤ◌}
use Rattle.kern_range.proofs.ProductLemmas.{quotients_are}
use Rattle.kern_range.proofs.product.quotients.Goals as goal

pub returns : goal.returns
returns c =
    c.hull.ensures
    ∙ quotients_are (record { least = c.args.low.left *ℤ c.args.low.right; greatest = c.args.high.left *ℤ c.args.high.right }) c.args.c
    c.by_least.result c.by_greatest.result c.by_least-2.result c.by_greatest-2.result
    (sym c.holds_zero.ensures ∙ c.if-holds_zero.false) c.by_least.ensures c.by_greatest.ensures c.by_least-2.ensures c.by_greatest-2.ensures
