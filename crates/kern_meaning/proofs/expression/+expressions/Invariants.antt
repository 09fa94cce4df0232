-- Each form's function stands between the expression and its operands.
use Rattle.std.proofs.Common.{◌+◌, ◌*◌}
use Rattle.std.specs.Prelude.{max}
use Rattle.kern_tree.proofs.expr.Expr.TheLaws.{the_size}
use Rattle.kern_meaning.proofs.expression.+expressions.Given as goal

abbrev pub decreases-value_of : goal.decreases-value_of
decreases-value_of l = 2 * the_size l.expr.now

abbrev pub decreases-part_of : goal.decreases-part_of
decreases-part_of l = 2 * the_size l.a.now + 1

abbrev pub decreases-one_of : goal.decreases-one_of
decreases-one_of l = 2 * the_size l.a.now + 1

abbrev pub decreases-to_of : goal.decreases-to_of
decreases-to_of l = 2 * the_size l.a.now + 1

abbrev pub decreases-two_of : goal.decreases-two_of
decreases-two_of l = 2 * max (the_size l.a.now) (the_size l.b.now) + 1

abbrev pub decreases-three_of : goal.decreases-three_of
decreases-three_of l = 2 * max (the_size l.a.now) (max (the_size l.b.now) (the_size l.c.now)) + 1
