use Rattle.std.proofs.Common.{arith, subst, ◌∙◌}
use Rattle.kern_meaning.specs.declared.value.Value.{Value}
use Rattle.kern_meaning.specs.Stops.{OrStop}
use Rattle.kern_meaning.specs.Walks.{WritesValue}
use Rattle.kern_meaning.proofs.LinkLemmas.{first_counted, other_counted, read_value}
use Rattle.kern_meaning.proofs.expression.+expressions.Goals as goal

pub value_of-returns-in-Name : goal.value_of-returns-in-Name
value_of-returns-in-Name t c =
    subst (λ (meaning : OrStop Value). WritesValue c.read.result meaning c.read.new.value)
    (read_value c.args.walk.now.names.now c.args.walk.now.decls.now c.args.walk.now.i.now c.args.walk.now.j.now c.args.values.now c.requires.same c.args.expr.now c.in-Name.field-0 c.in-Name.is c.args.links.now c.requires.links)
    c.read.ensures

pub two_of-value_of-requires-in-And-2 : goal.two_of-value_of-requires-in-And-2
two_of-value_of-requires-in-And-2 t c =
    (omega (arith, c.decreases), (c.split-parts.ensures.others ∙ other_counted c.args.links.now _ _ c.requires.links, c.requires.same))

pub two_of-value_of-requires-in_default : goal.two_of-value_of-requires-in_default
two_of-value_of-requires-in_default t c =
    (omega (arith, c.decreases), (c.split-parts.ensures.others ∙ other_counted c.args.links.now _ _ c.requires.links, c.requires.same))

pub three_of-value_of-requires-2 : goal.three_of-value_of-requires-2
three_of-value_of-requires-2 t c =
    let rest = c.split-parts.ensures.others ∙ other_counted c.args.links.now _ _ c.requires.links in
    (omega (arith, c.decreases), (c.split-later.ensures.first ∙ first_counted c.split-parts.result.1.now _ _ rest, c.requires.same))

pub three_of-value_of-requires-3 : goal.three_of-value_of-requires-3
three_of-value_of-requires-3 t c =
    let rest = c.split-parts.ensures.others ∙ other_counted c.args.links.now _ _ c.requires.links in
    (omega (arith, c.decreases), (c.split-later.ensures.others ∙ other_counted c.split-parts.result.1.now _ _ rest, c.requires.same))
