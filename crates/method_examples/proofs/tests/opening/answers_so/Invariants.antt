use Rattle.method_examples.proofs.tests.opening.answers_so.Given as goal

abbrev pub ghosts-answers : goal.ghosts-answers
ghosts-answers a = record { name = a.blank.name; parts = a.blank.parts }
