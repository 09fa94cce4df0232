use Rattle.std.proofs.Common.{◌∙◌, ap₂, ℤ}
use Rattle.kern_range.specs.Intervals.{quotient}
use Rattle.kern_range.proofs.product.product_quotient.Goals as goal

pub returns : goal.returns
returns c = c.quotients.ensures ∙ ap₂ (λ (l g : ℤ). quotient (record { least = l; greatest = g }) c.args.c) c.least.ensures c.greatest.ensures
