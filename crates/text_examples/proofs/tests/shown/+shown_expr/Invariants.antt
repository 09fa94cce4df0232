use Rattle.text_examples.proofs.tests.shown.+shown_expr.Given as goal

abbrev pub decreases-shown_expr : goal.decreases-shown_expr
decreases-shown_expr l = l.levels
