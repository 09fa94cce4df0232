use Rattle.text_examples.proofs.tests.shown.+shown.Given as goal

abbrev pub decreases-shown : goal.decreases-shown
decreases-shown l = l.levels
