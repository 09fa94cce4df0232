use Rattle.std.proofs.Common.{◌∙◌, ap, ap₂, ◌+ℤ◌}
use Rattle.pf_num.specs.Exact.{exact}
use Rattle.kern_range.specs.Intervals.{with_ends}
use Rattle.kern_range.proofs.product.inner.Goals as goal

pub returns : goal.returns
returns c =
    c.with_ends.ensures
    ∙ ap₂ with_ends (c.total-low.ensures ∙ ap exact (ap₂ (λ x y. x +ℤ y) c.least.ensures (ap₂ (λ x y. x +ℤ y) c.least-2.ensures c.least-3.ensures)))
    (c.total-high.ensures ∙ ap exact (ap₂ (λ x y. x +ℤ y) c.greatest.ensures (ap₂ (λ x y. x +ℤ y) c.greatest-2.ensures c.greatest-3.ensures)))
