use Rattle.method_examples.proofs.tests.opening.tables_answer_so.Given as goal

abbrev pub ghosts-answers_of_tables : goal.ghosts-answers_of_tables
ghosts-answers_of_tables a = record { name = a.blank.name; parts = a.blank.parts }
