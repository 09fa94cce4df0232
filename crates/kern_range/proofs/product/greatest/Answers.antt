use Rattle.std.proofs.Common.{◌∙◌, ap, sym, Bool}
use Rattle.kern_range.specs.Intervals.{product}
use Rattle.kern_range.proofs.product.greatest.Goals as goal

pub returns-then-one_name : goal.returns-then-one_name
returns-then-one_name c =
    c.greatest_square.ensures ∙ ap (λ (o : Bool). (product o c.args.a c.args.b).greatest) (sym c.if-one_name.true)

pub returns-else-one_name : goal.returns-else-one_name
returns-else-one_name c =
    c.greatest_product.ensures ∙ ap (λ (o : Bool). (product o c.args.a c.args.b).greatest) (sym c.if-one_name.false)
